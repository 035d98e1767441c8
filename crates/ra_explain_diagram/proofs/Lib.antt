mod ArcBytes
mod Leads
mod ShownRows
