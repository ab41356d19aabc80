-- What the code's branches need of the definitions.
use Rattle.std.specs.Prelude.{◌≡◌, List, ℕ, get_or}
use Rattle.std.proofs.Common.{ap, ◌∙◌}
use Rattle.std.proofs.Math.Bool.{true, false}
use Rattle.pairs.specs.Standard.{indexed, returned}
use Rattle.pairs.specs.Events.{points_as, event_of, malformed_of}
use Rattle.pairs.specs.declared.Event.TheVariants.{Point}
use Rattle.euckr_decoder.specs.Standard.{is_trail, pointer_of, is_mapped, pair_of}

-- what was read at the pointer
module _ (index : List ℕ) (lead b at entry : ℕ) where
  read_is : at ≡ pointer_of lead b → entry ≡ get_or index at 0 → entry ≡ get_or index (pointer_of lead b) 0
  read_is p q = q ∙ ap (λ (k : ℕ). get_or index k 0) p

  pub pair_mapped : is_trail b ≡ true → at ≡ pointer_of lead b → entry ≡ get_or index at 0 → is_mapped entry ≡ true → Point entry ≡ pair_of index lead b
  unfolding pair_of indexed returned event_of points_as
  pair_mapped t p q e =
      let f : is_mapped (get_or index (pointer_of lead b) 0) ≡ true = rw (read_is p q) at e in
      rw (t, f) (ap Point (read_is p q))

  pub pair_unmapped : is_trail b ≡ true → at ≡ pointer_of lead b → entry ≡ get_or index at 0 → is_mapped entry ≡ false → malformed_of b ≡ pair_of index lead b
  unfolding pair_of indexed
  pair_unmapped t p q e =
      let f : is_mapped (get_or index (pointer_of lead b) 0) ≡ false = rw (read_is p q) at e in
      rw (t, f)

pub pair_none : (index : List ℕ) (lead b : ℕ) → is_trail b ≡ false → malformed_of b ≡ pair_of index lead b
unfolding pair_of
pair_none index lead b h = rw h
