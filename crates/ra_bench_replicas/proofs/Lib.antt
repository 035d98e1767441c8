pub mod RisingLists
