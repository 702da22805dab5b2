-- What a piece spells is a good token.
use Rattle.std.proofs.Common.{◌≡◌, ℕ, suc, ◌+◌, ◌*◌, ◌-◌, ◌^◌, ◌≤◌, ◌<◌, Bool, true, false, List, [], ◌∷◌, ◌++◌, map}
use Rattle.std.proofs.Common.{length, sym, subst, arith}
use Rattle.std.proofs.lemmas.Int.Digits.{digits_value-lt}
use Rattle.std.proofs.lemmas.Bool.{and_parts, leb-true, eqb-false}
use Rattle.std.specs.Prelude.{Option, Some, None, ◌==◌, if◌then◌else◌, ⊤}
use Rattle.std.specs.List.{list_all}
use Rattle.std.specs.Char.{digit_value}
use Rattle.std.specs.Str.Parse.{AllDigits, digits_value, digits_value_after}
use Rattle.mus_units.specs.Bytes.{is_digit}
use Rattle.abc_notes.specs.Lengths.{LengthForm, whole, over, halved, AreNumberDigits, IsCount, count_of}
use Rattle.abc_notes.specs.Lengths.{IsWrittenLength, len_of}
use Rattle.abc_notes.specs.Graces.{GracePart, single, chorded, StandsInGrace, heads_in, body_of_sense, body_of}
use Rattle.abc_notes.specs.Items.{Inner, note_inside, StandsInside, sense}
use Rattle.abc_notes.specs.Chords.{has_inner_head, heads_of}
use Rattle.abc_notes.specs.Parts.{Parts, no_part, then_part}
use Rattle.abc_notes.specs.declared.part.Flaw.{Flaw}
use Rattle.abc_notes.specs.declared.part.GraceChord.{GraceChord}
use Rattle.abc_notes.proofs.Bounds.{digit_range, digit_value-is}
use Rattle.abc_pieces.specs.Forms.{Form, note_form, rest_form, measures_form, chord_form, grace_form, tuplet_form}
use Rattle.abc_pieces.specs.Forms.{broken_form, inline_form, space_form, IsGoodForm, is_kept_field, token_meant, after}
use Rattle.abc_pieces.specs.Tuplets.{TupletForm, bare, with_q, with_r, is_tuplet_digit, IsTuplet, value_or_zero, p_of}
use Rattle.abc_pieces.specs.Tuplets.{q_of, r_of}
use Rattle.abc_pieces.specs.declared.token.Token.{Token}
use Rattle.abc_pieces.specs.declared.token.PieceBefore.{PieceBefore}
use Rattle.abc_music.specs.declared.token.Placed.{Placed}
use Rattle.abc_music.specs.Good.{IsGoodLen, AreGoodHeads, HasHead, HasGraceHead, AreGoodGraces, IsGoodTuplet}
use Rattle.abc_music.specs.Good.{IsGoodToken, AreGoodTokens}
use Rattle.abc_music.specs.Tokens.{GivesTokens, clear, breaks, leads, with_token, column}

-- numbers of a few digits
digit_small : (b : ℕ) → is_digit b ≡ true → digit_value b < 10
digit_small b h = let r = digit_range b h in let is = digit_value-is b r.0 r.1 in omega (arith, r, is)

all_digits : (ds : List ℕ) → list_all is_digit ds ≡ true → AllDigits 10 ds
all_digits [] h = tt
all_digits (d ∷ ds) h = let p = and_parts _ _ h in (digit_small d p.0, all_digits ds p.1)

power_small : (n : ℕ) → n ≤ 4 → 10 ^ n ≤ 10000
power_small n h = pow_at n h where
  pow_at : (n : ℕ) → n ≤ 4 → 10 ^ n ≤ 10000
  pow_at (suc (suc (suc (suc (suc n))))) h = absurd (omega arith)
  pow_at _ h = omega arith

below_power : (ds : List ℕ) → list_all is_digit ds ≡ true → digits_value 10 ds < 10 ^ length ds
below_power ds h = digits_value-lt 10 ds (all_digits ds h)

after_some : (n : ℕ) (ds : List ℕ) → 1 ≤ n → 1 ≤ digits_value_after 10 n ds
after_some n [] h = h
after_some n (d ∷ ds) h = after_some (n * 10 + digit_value d) ds (omega arith)

some_digit : (d : ℕ) → is_digit d ≡ true → (d == 48) ≡ false → 1 ≤ digit_value d
some_digit d h e =
    let r = digit_range d h in
    let is = digit_value-is d r.0 r.1 in
    let other = eqb-false d 48 e in
    omega (arith, r, is, other)

number_some : (n : ℕ) (ds : List ℕ) → AreNumberDigits n ds → 1 ≤ digits_value 10 ds
number_some n [] good = absurd (let s = good.some in omega (arith, s))
number_some n (d ∷ ds) good =
    let p = and_parts _ _ good.digits in
    after_some (0 * 10 + digit_value d) ds (let s = some_digit d p.0 good.no_zero in omega (arith, s))

number_four : (ds : List ℕ) → AreNumberDigits 4 ds → digits_value 10 ds ≤ 9999
number_four ds good =
    let below = below_power ds good.digits in
    let power = power_small (length ds) good.few in
    omega (arith, below, power)

count_four : (ds : List ℕ) → IsCount 4 ds → (1 ≤ count_of ds) × (count_of ds ≤ 9999)
count_four [] good = (omega arith, omega arith)
count_four (d ∷ ds) good = (number_some 4 (d ∷ ds) good, number_four (d ∷ ds) good)

count_three : (ds : List ℕ) → IsCount 3 ds → (1 ≤ count_of ds) × (count_of ds ≤ 999)
count_three [] good = (omega arith, omega arith)
count_three (a ∷ []) good =
    (number_some 3 (a ∷ []) good, let below = below_power (a ∷ []) good.digits in omega (arith, below))
count_three (a ∷ b ∷ []) good =
    (number_some 3 (a ∷ b ∷ []) good, let below = below_power (a ∷ b ∷ []) good.digits in omega (arith, below))
count_three (a ∷ b ∷ c ∷ []) good =
    (number_some 3 (a ∷ b ∷ c ∷ []) good, let below = below_power (a ∷ b ∷ c ∷ []) good.digits in omega (arith, below))
count_three (a ∷ b ∷ c ∷ d ∷ ds) good = absurd (let few = good.few in omega (arith, few))

halves : (n : ℕ) → n ≤ 6 → (1 ≤ 2 ^ n) × (2 ^ n ≤ 9999)
halves (suc (suc (suc (suc (suc (suc (suc n))))))) h = absurd (omega arith)
halves _ h = (omega arith, omega arith)

good_len : (f : LengthForm) → IsWrittenLength f → IsGoodLen (len_of f)
good_len (whole count) good =
    let c = count_four count good in record { some = c.0; num_high = c.1; above = omega arith; den_high = omega arith }
good_len (over count below) good =
    let c = count_four count good.0 in
    record { some = c.0; num_high = c.1; above = over_some below good.1; den_high = over_high below good.1 } where
      over_some : (below : List ℕ) → AreNumberDigits 4 below → 1 ≤ count_of below
      over_some [] good = omega arith
      over_some (d ∷ ds) good = number_some 4 (d ∷ ds) good

      over_high : (below : List ℕ) → AreNumberDigits 4 below → count_of below ≤ 9999
      over_high [] good = omega arith
      over_high (d ∷ ds) good = number_four (d ∷ ds) good
good_len (halved count slashes) good =
    let c = count_four count good.0 in
    let h = halves slashes good.2 in
    record { some = c.0; num_high = c.1; above = h.0; den_high = h.1 }

-- the heads of a chord
good_heads : (bang : Bool) (text : List ℕ) (parts : List Inner)
    → Parts Inner (StandsInside bang) text parts → AreGoodHeads (heads_of (map sense parts))
good_heads bang _ _ no_part = tt
good_heads bang _ _ (then_part text (note_inside f) rest more longest others) =
    (good_len f.length longest.stands.good.length, good_heads bang rest more others)
good_heads bang _ _ (then_part _ _ rest more _ others) = good_heads bang rest more others

some_head : (parts : List Inner) → has_inner_head parts ≡ true → HasHead (heads_of (map sense parts))
some_head [] h = absurd cc
some_head (note_inside f ∷ parts) h = tt
some_head (_ ∷ parts) h = some_head parts h

-- the notes and chords of a grace group
some_grace_head : (parts : List Inner) → has_inner_head parts ≡ true → HasGraceHead (heads_in (map sense parts))
some_grace_head [] h = absurd cc
some_grace_head (note_inside f ∷ parts) h = tt
some_grace_head (_ ∷ parts) h = some_grace_head parts h

graces_both : (one other : List GraceChord) → AreGoodGraces one → AreGoodGraces other → AreGoodGraces (one ++ other)
graces_both [] other good more = more
graces_both (chord ∷ one) other good more = (good.0, graces_both one other good.1 more)

single_good : (part : Inner) → AreGoodGraces (body_of_sense (sense part))
single_good (note_inside f) = (tt, tt)
single_good _ = tt

good_graces : (bang : Bool) (text : List ℕ) (parts : List GracePart)
    → Parts GracePart (StandsInGrace bang) text parts → AreGoodGraces (body_of parts)
good_graces bang _ _ no_part = tt
good_graces bang _ _ (then_part text (single part) rest more longest others) =
    graces_both (body_of_sense (sense part)) (body_of more) (single_good part) (good_graces bang rest more others)
good_graces bang _ _ (then_part text (chorded f) rest more longest others) =
    (some_grace_head f.parts longest.stands.good.head, good_graces bang rest more others)

-- tuplets
zero_or_one : (q : List ℕ) → IsCount 1 q → value_or_zero q ≤ 9
zero_or_one [] good = omega arith
zero_or_one (a ∷ []) good = let below = below_power (a ∷ []) good.digits in omega (arith, below)
zero_or_one (a ∷ b ∷ q) good = absurd (let few = good.few in omega (arith, few))

zero_or_two : (r : List ℕ) → IsCount 2 r → value_or_zero r ≤ 99
zero_or_two [] good = omega arith
zero_or_two (a ∷ []) good = let below = below_power (a ∷ []) good.digits in omega (arith, below)
zero_or_two (a ∷ b ∷ []) good = let below = below_power (a ∷ b ∷ []) good.digits in omega (arith, below)
zero_or_two (a ∷ b ∷ c ∷ r) good = absurd (let few = good.few in omega (arith, few))

p_range : (p : ℕ) → is_tuplet_digit p ≡ true → (2 ≤ p - 48) × (p - 48 ≤ 9)
p_range p h =
    let t = and_parts _ _ h in
    let low = leb-true 50 p t.0 in
    let high = leb-true p 57 t.1 in
    (omega (arith, low), omega (arith, high))

good_tuplet : (f : TupletForm) → IsTuplet f → IsGoodTuplet (p_of f) (q_of f) (r_of f)
good_tuplet (bare p) good =
    let r = p_range p good in record { p_low = r.0; p_high = r.1; q_high = omega arith; r_high = omega arith }
good_tuplet (with_q p q) good =
    let r = p_range p good.0 in
    record { p_low = r.0; p_high = r.1; q_high = zero_or_one q good.1; r_high = omega arith }
good_tuplet (with_r p q r) good =
    let s = p_range p good.0 in
    record { p_low = s.0; p_high = s.1; q_high = zero_or_one q good.1; r_high = zero_or_two r good.2 }

-- pieces
abbrev IsGoodMaybe : Option Token → Type 0
IsGoodMaybe None = ⊤
IsGoodMaybe (Some t) = IsGoodToken t

inline_good : (b : Bool) (letter : ℕ) (text : List ℕ)
    → IsGoodMaybe (if b then Some (Token.Inline letter text) else None)
inline_good true letter text = tt
inline_good false letter text = tt

good_piece : (bang : Bool) (f : Form) → IsGoodForm bang f → IsGoodMaybe (token_meant f)
good_piece bang (note_form f) good = good_len f.length good.length
good_piece bang (rest_form seen len) good = good_len len good
good_piece bang (measures_form seen count) good = count_three count good
good_piece bang (chord_form f) good =
    (some_head f.parts good.0.head, good_heads bang f.inside f.parts good.0.parts, good_len f.length good.0.length)
good_piece bang (grace_form f) good = good_graces bang f.inside f.parts good.parts
good_piece bang (tuplet_form f) good = good_tuplet f good
good_piece bang (broken_form right count) good = good
good_piece bang (inline_form letter text) good = inline_good (is_kept_field letter) letter text
good_piece bang (space_form blank more) good = tt
good_piece bang _ good = tt

good_put : (t : Option Token) (at : ℕ) (ts : List Placed)
    → IsGoodMaybe t → AreGoodTokens ts → AreGoodTokens (with_token t at ts)
good_put None at ts good more = more
good_put (Some t) at ts good more = (good, more)

pub good_prefix : (bang : Bool) (n : ℕ) (before : PieceBefore) (at : ℕ) (s : List ℕ) (ts : List Placed)
    (end : Option Flaw)
    → GivesTokens bang n before at s ts end → AreGoodTokens ts
good_prefix bang n _ _ _ _ _ (clear before at) = tt
good_prefix bang n _ _ _ _ _ (breaks before at byte s flaw h is) = tt
good_prefix bang n _ _ _ _ _ (leads before at s f rest ts all end l more is) =
    subst AreGoodTokens (sym is)
    (good_put (token_meant f) (column n (length s)) ts (good_piece bang f l.stands.good)
    (good_prefix bang n (after f) (length s) rest ts end more))
