-- The saved context by its length, and the places one after the other.
use Rattle.std.specs.Prelude.{◌≡◌, refl, List, [], ◌∷◌, ◌++◌, ℕ, zero, suc, ◌+◌, ◌≤◌, ◌<◌, length, get_or, take, drop}
use Rattle.std.proofs.Common.{sym, ◌∙◌, append-nil, add-one, arith, drop_of_length-le, drop-cons}
use Rattle.std.proofs.Math.Seq.{take-nil}
use Rattle.scribe.specs.Page.{Page, onto}
use Rattle.scribe.specs.PageLaws.{onto_append}
use Rattle.scribe.specs.Text.{ascii, hex_of}
use Rattle.context.specs.Context.{bytes_of}
use Rattle.context.specs.declared.Context.{Context}
use Rattle.places.specs.declared.place.Place.{Place}
use Rattle.lines.specs.Show.{saved_text, place_text, places_text}

-- ---- the context
module _ (a b : ℕ) where
  none_of : (n : ℕ) → length (take n (a ∷ b ∷ [])) ≡ 0 → ascii "-" ≡ saved_text (take n (a ∷ b ∷ []))
  none_of zero h = refl
  none_of (suc n) h = absurd (omega arith)

  one_of : (n : ℕ) → length (take n (a ∷ b ∷ [])) ≡ 1 → hex_of a ≡ saved_text (take n (a ∷ b ∷ []))
  one_of zero h = absurd (omega arith)
  one_of (suc zero) h = sym (append-nil (hex_of a))
  one_of (suc (suc n)) h = absurd (omega arith)

  two_of : (n : ℕ) → (length (take n (a ∷ b ∷ [])) ≡ 0 → ⊥) → (length (take n (a ∷ b ∷ [])) ≡ 1 → ⊥) → hex_of a ++ hex_of b ≡ saved_text (take n (a ∷ b ∷ []))
  two_of zero g h = absurd (g refl)
  two_of (suc zero) g h = absurd (h refl)
  two_of (suc (suc n)) g h = rw (take-nil n, append-nil (hex_of b))

module _ (c : Context) (n : ℕ) (e : n ≡ length (bytes_of c)) where
  pub none_saved : n ≡ 0 → ascii "-" ≡ saved_text (bytes_of c)
  none_saved h = none_of c.first c.second c.len (sym e ∙ h)

  pub one_saved : n ≡ 1 → hex_of c.first ≡ saved_text (bytes_of c)
  one_saved h = one_of c.first c.second c.len (sym e ∙ h)

  pub two_saved : (n ≡ 0 → ⊥) → (n ≡ 1 → ⊥) → hex_of c.first ++ hex_of c.second ≡ saved_text (bytes_of c)
  two_saved g h = two_of c.first c.second c.len (λ p. g (e ∙ p)) (λ p. h (e ∙ p))

-- ---- the places, in a loop: one turn at k, and the end
pub places_turn : (p q : Page) (ps : List Place) (k : ℕ) (d : Place) → k < length ps → q ≡ onto p (place_text (get_or ps k d)) → onto q (places_text (drop (k + 1) ps)) ≡ onto p (places_text (drop k ps))
unfolding places_text
places_turn p q ps k d h e = rw (drop-cons ps k d h, add-one, e, ← onto_append p (place_text (get_or ps k d)) (places_text (drop (suc k) ps)))

pub places_done : (p : Page) (ps : List Place) (k : ℕ) → length ps ≤ k → onto p (places_text (drop k ps)) ≡ p
unfolding onto places_text
places_done p ps k h = rw (drop_of_length-le ps {i = k} h)
