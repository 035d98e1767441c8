-- Lemmas on `is_kind`, the test whether two kinds are the same.
use Rattle.std.proofs.Common.{◌≡◌, true, refl}
use Rattle.std.proofs.lemmas.Bool.{false≢true}
use Rattle.ra_labels.specs.declared.kind.Kind.{Kind}
use Rattle.ra_labels.specs.declared.kind.Kind.TheVariants.{Counter, Register, LwwSet, OrSet, Rga}
use Rattle.ra_labels.specs.declared.kind.Kind.TheVariants as kinds
use Rattle.ra_labels.specs.Answer.{is_kind}

pub same_kind : (k l : Kind) → is_kind k l ≡ true → l ≡ k
same_kind Counter Counter is = refl
same_kind Register Register is = refl
same_kind LwwSet LwwSet is = refl
same_kind OrSet OrSet is = refl
same_kind Rga Rga is = refl
same_kind kinds.List kinds.List is = refl
same_kind kinds.Any kinds.Any is = refl
same_kind kinds.MvRegister kinds.MvRegister is = refl
same_kind k l is = absurd (false≢true is)

pub kind_itself : (k : Kind) → is_kind k k ≡ true
kind_itself Counter = refl
kind_itself Register = refl
kind_itself LwwSet = refl
kind_itself OrSet = refl
kind_itself Rga = refl
kind_itself kinds.List = refl
kind_itself kinds.Any = refl
kind_itself kinds.MvRegister = refl

pub one_kind : (a b c : Kind) → is_kind a b ≡ true → is_kind b c ≡ true → is_kind a c ≡ true
one_kind Counter Counter c ab bc = bc
one_kind Register Register c ab bc = bc
one_kind LwwSet LwwSet c ab bc = bc
one_kind OrSet OrSet c ab bc = bc
one_kind Rga Rga c ab bc = bc
one_kind kinds.List kinds.List c ab bc = bc
one_kind kinds.Any kinds.Any c ab bc = bc
one_kind kinds.MvRegister kinds.MvRegister c ab bc = bc
one_kind a b c ab bc = absurd (false≢true ab)
