-- Each written sign of a chord has a place, and each head a shift.
use Rattle.std.proofs.Common.{◌≡◌, ℕ, suc, ◌+◌, ℤ, Bool, true, false, if◌then◌else◌, List, [], ◌∷◌, length, map, refl}
use Rattle.std.proofs.Common.{sym, ◌∙◌, Option, Some, None, is_some, slice_index_or, arith}
use Rattle.std.proofs.lemmas.List.{length-map}
use Rattle.std.specs.{Prelude.slice_get, List.AllByRecursion}
use Rattle.mus_units.specs.declared.{note.Head.Head, pitch.{Alter.Alter, Clef.Clef}}
use Rattle.mus_stems.specs.declared.heads.HeadPosition.{HeadPosition}
use Rattle.mus_stems.specs.Columns.{AreInColumns, SignedAfter, sign_of_head, sign_where}
use Rattle.mus_stems.specs.Heads.{Taken, stand_of}
use Rattle.mus_stems.specs.Order.{head_at}
use Rattle.mus_stems.proofs.OrderLaws.{of_each}
use Rattle.law_staff_columns.proofs.Forms.{AreShifted, AreSigned}

unsigned : (a : Option Alter) → (is_some a ≡ true → ⊥) → a ≡ None
unsigned a never = grind (arith, never)

signed_where : (first : ℤ) (k : ℕ) (signed : Bool) → signed ≡ true → sign_where first k signed ≡ None → ⊥
signed_where first k signed is none = grind (arith, is, none)

each_signed : (first : ℤ) (xs : List (Option ℤ)) (k : ℕ) (ts : List Taken)
    → SignedAfter first xs k ts → AllByRecursion (λ t. t.signed ≡ true → sign_of_head xs t ≡ None → ⊥) ts
each_signed first xs k [] after = tt
each_signed first xs k (t ∷ ts) after = (
  λ is none. signed_where first k t.signed is (sym after.0 ∙ none),
  each_signed first xs (if t.signed then k + 1 else k) ts after.1,
)

by_places : (c : Clef) (hs : List Head) (xs : List (Option ℤ)) → length xs ≡ length hs
    → ((k : ℕ) (s : HeadPosition)
    → slice_get (map (stand_of c) hs) k ≡ Some s → s.signed ≡ true → slice_index_or xs k None ≡ None → ⊥)
    → AreSigned hs xs
unfolding stand_of
by_places c [] xs long signed = tt
by_places c (h ∷ hs) [] long signed = absurd (omega (arith, long))
by_places c (h ∷ hs) (None ∷ xs) long signed = (
  unsigned h.sign (λ is. signed 0 (stand_of c h) refl is refl),
  by_places c hs xs (omega (arith, long)) (λ k. signed (suc k)),
)
by_places c (h ∷ hs) (Some x ∷ xs) long signed = by_places c hs xs (omega (arith, long)) (λ k. signed (suc k))

pub signs_placed : (first : ℤ) (c : Clef) (hs : List Head) (xs : List (Option ℤ))
    → AreInColumns first (map (stand_of c) hs) xs → AreSigned hs xs
signs_placed first c hs xs are =
    by_places c hs xs (are.each ∙ length-map hs (stand_of c)) (λ k s has.
    of_each _ are.order (head_at false k s) (each_signed first xs 0 are.order are.signed) (are.taken.all k s has))

pub heads_shifted : (hs : List Head) (xs : List ℤ) → length xs ≡ length hs → AreShifted hs xs
heads_shifted [] xs long = tt
heads_shifted (h ∷ hs) [] long = absurd (omega (arith, long))
heads_shifted (h ∷ hs) (x ∷ xs) long = heads_shifted hs xs (omega (arith, long))
