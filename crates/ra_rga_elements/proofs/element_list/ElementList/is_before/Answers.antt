use Rattle.std.proofs.Common.{◌≡◌, ◌<◌, ℕ, Bool, true, length, refl, sym, ap, ◌∙◌, subst, arith, Some, None, Option}
use Rattle.std.specs.Prelude.{IsTrue, ◌↔◌, nat_lt, ◌&&◌, IfSome}
use Rattle.std.specs.HashMap.{spare}
use Rattle.std.specs.Vec.{vec_len, vec_capacity}
use Rattle.std.proofs.lemmas.Bool.{lt-ltb, ltb-true}
use Rattle.ra_rga_elements.specs.Entries.{IsBehind}
use Rattle.ra_rga_elements.specs.Chunk.{Chunk}
use Rattle.ra_rga_elements.specs.ElementList.{ElementList, arrival_at, IsBefore}
use Rattle.ra_rga_elements.specs.Kept.{place_of}
use Rattle.ra_rga_elements.proofs.ElementNumbers.{known_as}
use Rattle.ra_rga_elements.proofs.ElementOrder.{before_end, by_places, in_one_chunk, place_there, group_read, place_read, chunk_read, in_chunk_read}
use Rattle.ra_rga_elements.proofs.element_list.ElementList.is_before.Goals as goal

-- the second number is known as well
known_behind : (behind : Option ℕ) (count n : ℕ) → IfSome behind (λ m. m < count) → behind ≡ Some n → n < count
known_behind (Some m) count n known is = let same : m ≡ n = cc in omega (arith, known, same)
known_behind None count n known is = absurd (cc is)

-- a test that decides the order
decided : (list self : ElementList) (behind other : Option ℕ) (n : ℕ) (b : Bool) → list ≡ self → behind ≡ other
    → ((b ≡ true → IsBefore list other (arrival_at list.arrivals n).element)
    × (IsBefore list other (arrival_at list.arrivals n).element → b ≡ true))
    → IsTrue b ↔ IsBefore self behind (arrival_at self.arrivals n).element
decided list self behind other n b view is exactly =
    subst (λ (l : ElementList). IsTrue b ↔ IsBefore l behind (arrival_at l.arrivals n).element) view
    (subst (λ (o : Option ℕ). IsTrue b ↔ IsBefore list o (arrival_at list.arrivals n).element) (sym is) exactly)

pub returns-in_default : goal.returns-in_default
returns-in_default c =
    let known = known_as _ _ _ (ap (λ (l : ElementList). l.arrivals) c.self.view_is) c.requires.there in
    let inside = c.self.inside in
    let fits = nat_lt (vec_len inside.elements) (vec_capacity inside.elements) && nat_lt 0 (spare inside.numbers) in
    decided _ _ _ _ c.args.number true c.self.view_is c.in_default.is (
      λ holds. before_end _ _ _ _ _ c.self.invariant fits c.args.number known,
      λ before. refl,
    )

pub index-place_behind-requires : goal.index-place_behind-requires
index-place_behind-requires c =
    let elements = c.self.inside.elements.items in
    let placed = c.self.invariant.chunks_kept.placed in
    let high = known_as _ _ _ (ap (λ (l : ElementList). l.arrivals) c.self.view_is)
    (known_behind _ _ _ c.requires.behind c.in-Some.is) in
    omega (
      arith,
      group_read elements c.in-Some.behind _ high c.index-2.ensures,
      placed.grouped c.in-Some.behind high,
      c.self.inside.places.ok.0,
    )

pub returns-then-place-place_behind : goal.returns-then-place-place_behind
returns-then-place-place_behind c =
    let arrived = ap (λ (l : ElementList). l.arrivals) c.self.view_is in
    let elements = c.self.inside.elements.items in
    let places = c.self.inside.places.items in
    let placed = c.self.invariant.chunks_kept.placed in
    let low = known_as _ _ _ arrived c.requires.there in
    let high = known_as _ _ _ arrived (known_behind _ _ _ c.requires.behind c.in-Some.is) in
    let p = place_read elements places c.args.number _ _ low c.index.ensures (placed.grouped c.args.number low)
    c.index-place.ensures in
    let q = place_read elements places c.in-Some.behind _ _ high c.index-2.ensures
    (placed.grouped c.in-Some.behind high) c.index-place_behind.ensures in
    let differ : ¬ (place_of elements places c.args.number ≡ place_of elements places c.in-Some.behind) =
    λ same. c.if-place-place_behind.true (p ∙ same ∙ sym q) in
    let inside = c.self.inside in
    let fits = nat_lt (vec_len inside.elements) (vec_capacity inside.elements) && nat_lt 0 (spare inside.numbers) in
    let exactly = by_places _ _ _ _ _ c.self.invariant fits c.args.number c.in-Some.behind low high differ in
    decided _ _ _ _ c.args.number _ c.self.view_is c.in-Some.is (
      λ lower. exactly.0
          (subst (λ (m : ℕ). m < place_of elements places c.in-Some.behind) p
          (subst (λ (m : ℕ). c.index-place.result.now < m) q (ltb-true _ _ lower))),
      λ before. lt-ltb _ _
          (subst (λ (m : ℕ). c.index-place.result.now < m) (sym q)
          (subst (λ (m : ℕ). m < place_of elements places c.in-Some.behind) (sym p) (exactly.1 before))),
    )

pub index-chunk-requires : goal.index-chunk-requires
index-chunk-requires c =
    let elements = c.self.inside.elements.items in
    let places = c.self.inside.places.items in
    let placed = c.self.invariant.chunks_kept.placed in
    let low = known_as _ _ _ (ap (λ (l : ElementList). l.arrivals) c.self.view_is) c.requires.there in
    omega (
      arith,
      place_read elements places c.args.number _ _ low c.index.ensures (placed.grouped c.args.number low)
          c.index-place.ensures,
      place_there _ _ _ _ _ c.self.invariant true c.args.number low,
      c.self.inside.chunks.ok.0,
    )

pub position_behind-requires : goal.position_behind-requires
position_behind-requires c =
    let arrived = ap (λ (l : ElementList). l.arrivals) c.self.view_is in
    let elements = c.self.inside.elements.items in
    let placed = c.self.invariant.chunks_kept.placed in
    let low = known_as _ _ _ arrived c.requires.there in
    in_chunk_read c.self.inside.chunks.items elements c.self.inside.places.items _ c.args.number _ _ _ placed low
    c.index.ensures c.index-place.ensures refl c.index-chunk.ensures

pub position_behind-requires-2 : goal.position_behind-requires-2
position_behind-requires-2 c =
    let arrived = ap (λ (l : ElementList). l.arrivals) c.self.view_is in
    let elements = c.self.inside.elements.items in
    let placed = c.self.invariant.chunks_kept.placed in
    let high = known_as _ _ _ arrived (known_behind _ _ _ c.requires.behind c.in-Some.is) in
    in_chunk_read c.self.inside.chunks.items elements c.self.inside.places.items _ c.in-Some.behind _ _ _ placed high
    c.index-2.ensures c.index-place_behind.ensures c.if-place-place_behind.false c.index-chunk.ensures

pub returns : goal.returns
returns c =
    let arrived = ap (λ (l : ElementList). l.arrivals) c.self.view_is in
    let elements = c.self.inside.elements.items in
    let chunks = c.self.inside.chunks.items in
    let places = c.self.inside.places.items in
    let placed = c.self.invariant.chunks_kept.placed in
    let low = known_as _ _ _ arrived c.requires.there in
    let high = known_as _ _ _ arrived (known_behind _ _ _ c.requires.behind c.in-Some.is) in
    let p = place_read elements places c.args.number _ _ low c.index.ensures (placed.grouped c.args.number low)
    c.index-place.ensures in
    let inside = c.self.inside in
    let fits = nat_lt (vec_len inside.elements) (vec_capacity inside.elements) && nat_lt 0 (spare inside.numbers) in
    let there = place_there _ _ _ _ _ c.self.invariant fits c.args.number low in
    let place_in : c.index-place.result.now < length chunks = omega (arith, p, there) in
    let chunk = chunk_read chunks c.index-place.result.now c.index-chunk.result.now place_in c.index-chunk.ensures in
    let first = subst (λ (h : Chunk). IsBehind h.entries c.args.number c.position_behind.result) chunk
    c.position_behind.ensures in
    let second = subst (λ (h : Chunk). IsBehind h.entries c.in-Some.behind c.position_behind-2.result) chunk
    c.position_behind-2.ensures in
    let exactly = in_one_chunk _ _ _ _ _ c.self.invariant fits c.args.number c.in-Some.behind _ _ _ low high place_in
    first second in
    decided _ _ _ _ c.args.number _ c.self.view_is c.in-Some.is (
      λ lower. exactly.0 (ltb-true _ _ lower),
      λ before. lt-ltb _ _ (exactly.1 before),
    )
