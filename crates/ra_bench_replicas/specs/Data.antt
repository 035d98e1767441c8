-- The kind of data that a replica keeps.
use Rattle.ra_labels.specs.declared.kind.Kind.{Kind}
use Rattle.ra_labels.specs.declared.kind.Kind.TheVariants as kind
use Rattle.ra_bench_replicas.specs.declared.data.Data.{Data}
use Rattle.ra_bench_replicas.specs.declared.data.Data.TheVariants.{Counter, Register, LwwSet, OrSet, Rga}
use Rattle.ra_bench_replicas.specs.declared.data.Data.TheVariants as form

abbrev pub kind_in : Data → Kind
kind_in (Counter number) = kind.Counter
kind_in (Register last) = kind.Register
kind_in (LwwSet lasts) = kind.LwwSet
kind_in (OrSet pairs) = kind.OrSet
kind_in (Rga list) = kind.Rga
kind_in (form.List list) = kind.List
kind_in (form.Any object) = kind.Any
kind_in (form.MvRegister register) = kind.MvRegister
