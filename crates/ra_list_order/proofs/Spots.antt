-- Where an element is: before a cut or behind it.
use Rattle.std.proofs.Common.{◌≡◌, ℕ, ◌+◌, ◌-◌, ◌<◌, ◌≤◌, List, length, get_or, take, drop, sym, ap, ◌∙◌, subst, arith}
use Rattle.std.specs.Prelude.{Contains}
use Rattle.std.proofs.lemmas.List.{length-take, length-drop, get_or-take, get_or-drop}
use Rattle.std.proofs.lemmas.List.Elements.{Contains-get_or, Contains-append_left, Contains-append_right}
use Rattle.ra_list_order.specs.Chunks.{Chunk, no_chunk, chunk_at, joined}
use Rattle.ra_list_order.specs.Gathering.{left_of, right_of, IsAt}
use Rattle.ra_list_order.proofs.JoinedChunks.{in_joined}

at_index : (xs : List ℕ) (i x : ℕ) → i < length xs → get_or xs i 0 ≡ x → Contains xs x
at_index xs i x within is = subst (λ y. Contains xs y) is (Contains-get_or xs i 0 within)

module _ (chunks : List Chunk) (x k i place position : ℕ) (at : IsAt chunks x k i) where
  pub in_earlier_chunk : k < place → Contains (left_of chunks place position) x
  in_earlier_chunk less =
      let within = at.within in
      let long = length-take place chunks in
      Contains-append_left (joined (take place chunks)) (take position (chunk_at chunks place).elements) x
      (in_joined (take place chunks) k x (omega (arith, within, long, less))
      (subst (λ (c : Chunk). Contains c.elements x) (sym (get_or-take place chunks k no_chunk less))
      (at_index (chunk_at chunks k).elements i x at.among at.there)))

  pub earlier_in_chunk : k ≡ place → i < position → Contains (left_of chunks place position) x
  earlier_in_chunk same less =
      let xs = (chunk_at chunks place).elements in
      let among = at.among in
      let mine = ap (λ n. length (chunk_at chunks n).elements) same in
      let long = length-take position xs in
      Contains-append_right (joined (take place chunks)) (take position xs) x
      (at_index (take position xs) i x (omega (arith, among, mine, long, less))
      (get_or-take position xs i 0 less ∙ ap (λ n. get_or (chunk_at chunks n).elements i 0) (sym same) ∙ at.there))

  pub in_later_chunk : place < k → Contains (right_of chunks place position) x
  in_later_chunk less =
      let within = at.within in
      let long = length-drop (place + 1) chunks in
      let sum : (place + 1) + (k - (place + 1)) ≡ k = omega (arith, less) in
      Contains-append_right (drop position (chunk_at chunks place).elements) (joined (drop (place + 1) chunks)) x
      (in_joined (drop (place + 1) chunks) (k - (place + 1)) x (omega (arith, within, long, less))
      (subst (λ (c : Chunk). Contains c.elements x)
      (sym (get_or-drop (place + 1) chunks (k - (place + 1)) no_chunk ∙ ap (chunk_at chunks) sum))
      (at_index (chunk_at chunks k).elements i x at.among at.there)))

  pub later_in_chunk : k ≡ place → position ≤ i → Contains (right_of chunks place position) x
  later_in_chunk same less =
      let xs = (chunk_at chunks place).elements in
      let among = at.among in
      let mine = ap (λ n. length (chunk_at chunks n).elements) same in
      let long = length-drop position xs in
      let sum : position + (i - position) ≡ i = omega (arith, less) in
      Contains-append_left (drop position xs) (joined (drop (place + 1) chunks)) x
      (at_index (drop position xs) (i - position) x (omega (arith, among, mine, long, less))
      (get_or-drop position xs (i - position) 0 ∙ ap (λ n. get_or xs n 0) sum
      ∙ ap (λ n. get_or (chunk_at chunks n).elements i 0) (sym same) ∙ at.there))
