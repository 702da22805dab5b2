-- Marks counted one by one, and no accidentals if no head has one.
use Rattle.std.proofs.Common.{◌≡◌, ℕ, suc, ◌+◌, ◌-◌, ◌*◌, ◌<◌, ℤ, pos, Bool, true, ◌&&◌, List, [], ◌∷◌, ◌++◌, Option}
use Rattle.std.proofs.Common.{Some, None, is_none, refl, arith}
use Rattle.std.specs.List.{list_all}
use Rattle.mus_units.specs.declared.{glyph.Glyph.Glyph, note.Head.Head, pitch.Alter.Alter, pitch.Clef.Clef}
use Rattle.mus_ink.specs.Drawing.{glyph, loose_glyph}
use Rattle.mus_ink.specs.Distances.{dot_side, dot_step, rest_dot_line}
use Rattle.mus_ink.specs.Kinds.{flag_glyph, stub_glyph}
use Rattle.mus_ink.specs.Notes.{dy_of, sign_mark, sign_marks}
use Rattle.mus_ink.specs.Stems.{stem_dx, flag_dy, flag_marks, lower_edge, stub_marks}
use Rattle.mus_ink.specs.Rests.{raised, short_dy, short_rests, rest_dots}

pub one_less : (k n : ℕ) → k < n → n - k ≡ suc (n - (k + 1))
one_less k n lt = omega arith

pub flags_step : (up : Bool) (to : ℤ) (k n : ℕ) → k < n →
    flag_marks up to k (n - k)
    ≡ glyph (flag_glyph up) (stem_dx up) (flag_dy up to k) ∷ flag_marks up to (k + 1) (n - (k + 1))
flags_step up to k n lt = rw (one_less k n lt) refl

pub stubs_step : (first up : Bool) (to : ℤ) (k n : ℕ) → k < n →
    stub_marks first up to k (n - k)
    ≡ loose_glyph (stub_glyph first) (stem_dx up) (lower_edge up to k) ∷ stub_marks first up to (k + 1) (n - (k + 1))
stubs_step first up to k n lt = rw (one_less k n lt) refl

pub rests_step : (g : Glyph) (top : ℤ) (k n : ℕ) → k < n →
    short_rests g top k (n - k) ≡ glyph g (pos 0) (short_dy top k) ∷ short_rests g top (k + 1) (n - (k + 1))
rests_step g top k n lt = rw (one_less k n lt) refl

pub dots_step : (raise : ℤ) (k n : ℕ) → k < n →
    rest_dots raise k (n - k)
    ≡ glyph Glyph.Dt (pos (dot_side + dot_step * k)) (raised raise (pos rest_dot_line))
    ∷ rest_dots raise (k + 1) (n - (k + 1))
dots_step raise k n lt = rw (one_less k n lt) refl

pub no_signs : (c : Clef) (hs : List Head) (dxs : List (Option ℤ))
    → list_all (λ h. is_none h.sign) hs ≡ true → sign_marks c hs dxs ≡ []
no_signs c [] dxs e = refl
no_signs c (h ∷ hs) [] e = refl
no_signs c (h ∷ hs) (dx ∷ dxs) e = by h.sign (no_signs c hs dxs) e
  where
    by : (sign : Option Alter)
        → (list_all (λ h. is_none h.sign) hs ≡ true → sign_marks c hs dxs ≡ [])
        → (is_none sign && list_all (λ h. is_none h.sign) hs) ≡ true
        → sign_mark (dy_of c h) sign dx ++ sign_marks c hs dxs ≡ []
    by None more e = more e
    by (Some a) more e = grind (arith, e)
