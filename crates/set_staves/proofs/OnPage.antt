-- What is placed on a page has numbers in the range of a page, and bytes that can be printed may be shown there.
use Rattle.std.proofs.Common.{◌≡◌, ℕ, suc, ◌<◌, ℤ, pos, List, [], ◌∷◌, length, get_or, refl, sym, subst, arith}
use Rattle.std.proofs.lemmas.Bool.{and_from, and_parts}
use Rattle.std.proofs.lemmas.Bool.Decides.{nat_tests}
use Rattle.std.proofs.lemmas.Int.{ints}
use Rattle.std.specs.List.{All, list_all}
use Rattle.std.specs.Prelude.{IsTrue}
use Rattle.mus_laid.specs.Printed.{is_printable}
use Rattle.ps_text.specs.Range.{IsArcEnd, IsNumber, IsOffset, IsSpan, IsStretch, IsWords, is_shown}
use Rattle.law_marks_in_range.specs.Texts.{IsPrinted}
use Rattle.set_staves.{specs.Drawn.IsOnPage, specs.Marks.RisesAlong, specs.Marks.x_at, proofs.Rising.rises}

number : (z : ℤ) → IsOnPage z → IsNumber z
number z h = record { low = omega (arith, ints, h.low, h.high); high = omega (arith, ints, h.low, h.high) }

end : (y height rise : ℤ) → IsOnPage y → IsOffset height → IsOffset rise → IsArcEnd y height rise
end y height rise base h r = record {
  offset = h;
  point = record {
    low = omega (arith, ints, base.low, base.high, h.low, h.high);
    high = omega (arith, ints, base.low, base.high, h.low, h.high);
  };
  above = record {
    low = omega (arith, ints, base.low, base.high, h.low, h.high, r.low, r.high);
    high = omega (arith, ints, base.low, base.high, h.low, h.high, r.low, r.high);
  };
}

stretch : (at : List ℤ) (first last : ℕ)
    → All IsOnPage at → RisesAlong at → first < last → last < length at → IsStretch (x_at at first) (x_at at last)
stretch at first last all rise before inside = record {
  first = number (x_at at first) (all first (pos 0) (omega (arith, before, inside)));
  last = number (x_at at last) (all last (pos 0) inside);
  rising = rises at rise first last before inside;
}

-- a beam or an arc from one column to a later one
pub spans : (at : List ℤ) (y x1 x2 from to rise : ℤ) (first last : ℕ)
    → IsOnPage y → All IsOnPage at → RisesAlong at → first < last → last < length at
    → x1 ≡ x_at at first → x2 ≡ x_at at last → IsOffset from → IsOffset to → IsOffset rise → IsSpan y x1 x2 from to rise
spans at y x1 x2 from to rise first last height all along before inside left right f t r = record {
  base = number y height;
  stretch =
      subst (λ x. IsStretch x x2) (sym left)
      (subst (λ x. IsStretch (x_at at first) x) (sym right) (stretch at first last all along before inside));
  rises = r;
  left = end y from rise height f r;
  right = end y to rise height t r;
}

-- bytes
byte_shown : (b : ℕ) → b < 256 → IsTrue (is_printable b) → IsTrue (is_shown b)
unfolding is_shown
byte_shown b small h = grind (arith, nat_tests, small, h)

bytes_shown : (t : List ℕ)
    → ((k : ℕ) → get_or t k 0 < 256) → IsTrue (list_all is_printable t) → IsTrue (list_all is_shown t)
bytes_shown [] small h = refl
bytes_shown (b ∷ t) small h =
    let both = and_parts (is_printable b) (list_all is_printable t) h in
    and_from _ _ (byte_shown b (small 0) both.0) (bytes_shown t (λ k. small (suc k)) both.1)

pub words_shown : (t : List ℕ) → ((k : ℕ) → get_or t k 0 < 256) → IsPrinted t → IsWords t
words_shown t small printed =
    record { shown = bytes_shown t small printed.printable; some = printed.some; few = printed.few }
