-- The lines of a body have one list of good items, or one first fault.
use Rattle.std.proofs.Common.{◌≡◌, refl, sym, subst, ℕ, ◌*◌, ◌^◌, ◌≤◌, ◌⊎◌, inl, inr, List, [], ◌∷◌, ◌++◌, length, Bool}
use Rattle.std.proofs.Common.{true, false, All, Option, Some, None, flat_map, option_map, arith}
use Rattle.std.proofs.lemmas.List.Elements.{All-nil, All-cons}
use Rattle.std.proofs.lemmas.Nat.{mul-le}
use Rattle.std.proofs.Math.Seq.{take-length}
use Rattle.std.specs.Prelude.{⊤, IfOk, Result, Ok, Err}
use Rattle.mus_units.specs.declared.note.Head.{Head}
use Rattle.abc_lines.specs.declared.book.Line.{Line}
use Rattle.abc_lines.specs.declared.fault.Fault.{Fault}
use Rattle.abc_lines.specs.declared.fault.FaultKind.{FaultKind}
use Rattle.abc_lines.specs.declared.kind.LineKind.{LineKind}
use Rattle.abc_lines.specs.Kinds.{kind_of}
use Rattle.abc_lines.specs.Results.{HasOneResult}
use Rattle.abc_notes.specs.declared.part.Len.{Len}
use Rattle.abc_pieces.specs.declared.token.PieceBefore.{PieceBefore}
use Rattle.abc_pieces.specs.declared.token.Token.{Token}
use Rattle.abc_pieces.specs.declared.token.WrittenChord.{WrittenChord}
use Rattle.abc_music.specs.declared.token.Placed.{Placed}
use Rattle.abc_music.specs.Good.{AreGoodHeads, AreGoodTokens, IsGoodLen, IsGoodToken}
use Rattle.abc_music.specs.Tokens.{fault_at}
use Rattle.abc_music.proofs.Prefixes.{has_prefix}
use Rattle.abc_music.proofs.GoodLaws.{good_prefix}
use Rattle.abc_field.specs.declared.directive.Breaks.{Breaks}
use Rattle.abc_field.specs.declared.field.Field.{Field}
use Rattle.abc_field.specs.Fields.{field_of, named_field}
use Rattle.abc_fields.specs.declared.header.Header.{Header}
use Rattle.abc_steps.specs.declared.step.BodyItem.{BodyItem}
use Rattle.abc_steps.specs.Good.{IsGoodSound}
use Rattle.abc_items.specs.{Good.IsGoodItem, Voices.declared_ids}
use Rattle.abc_items.specs.Body.{ItemOrFault, gives, fails, item_of_field, chord_sound, sound, first_len, is_on}
use Rattle.abc_items.specs.Body.{cut_given, item_of_token, placed_given, item_of_line_end, KindGives, BodyGives}
use Rattle.abc_items.specs.Body.{no_lines, one_line, judged_items, first_item_fault, items_in, IsBody, HasFault}
use Rattle.abc_items.specs.Body.{IsBodyResult}
use Rattle.abc_items.proofs.OneBody.{one_body}
use Rattle.law_one_outcome.proofs.GoodFields.{GoodRead, field_good, named_good}

-- ---- the items given are good
abbrev AreGood : List ItemOrFault → Type 0
AreGood [] = ⊤
AreGood (fails fault ∷ given) = AreGood given
AreGood (gives i ∷ given) = IsGoodItem i × AreGood given

both_good : (one other : List ItemOrFault) → AreGood one → AreGood other → AreGood (one ++ other)
both_good [] other good more = more
both_good (fails fault ∷ one) other good more = both_good one other good more
both_good (gives i ∷ one) other good more = (good.0, both_good one other good.1 more)

field_given_good : (read : Result Field FaultKind) (line at : ℕ) → GoodRead read → AreGood (item_of_field read line at)
field_given_good (Err kind) line at good = tt
field_given_good (Ok (Field.Key text)) line at good = (good, tt)
field_given_good (Ok (Field.Meter meter)) line at good = (good, tt)
field_given_good (Ok (Field.Unit unit)) line at good = (good, tt)
field_given_good (Ok (Field.Voice def)) line at good = (tt, tt)
field_given_good (Ok (Field.Words text)) line at good = (tt, tt)
field_given_good (Ok _) line at good = tt

sound_good : (heads : List Head) (seen : Bool) (len : Len)
    → IsGoodLen len → IsGoodSound (sound heads seen len.num len.den)
sound_good heads seen len good = record {
  some = good.some;
  num_high = omega (arith, good.num_high);
  above = good.above;
  den_high = omega (arith, good.den_high);
}

first_good : (heads : List (Head × Len)) → AreGoodHeads heads → IsGoodLen (first_len heads)
first_good [] good = record { some = omega arith; num_high = omega arith; above = omega arith; den_high = omega arith }
first_good (h ∷ more) good = good.0

product : (a b : ℕ) → 1 ≤ a → a ≤ 9999 → 1 ≤ b → b ≤ 9999 → (1 ≤ a * b) × (a * b ≤ 2 ^ 40)
product a b some high more most =
    (omega (arith, mul-le 1 1 a b some more), omega (arith, mul-le a b 9999 9999 high most))

chord_good : (chord : WrittenChord) → AreGoodHeads chord.heads → IsGoodLen chord.len → IsGoodSound (chord_sound chord)
chord_good chord heads len =
    let first = first_good chord.heads heads in
    let num = product (first_len chord.heads).num chord.len.num first.some first.num_high len.some len.num_high in
    let den = product (first_len chord.heads).den chord.len.den first.above first.den_high len.above len.den_high in
    record { some = num.0; num_high = num.1; above = den.0; den_high = den.1 }

cut_good : (on : Bool) (line at : ℕ) → AreGood (cut_given on line at)
cut_good true line at = (tt, tt)
cut_good false line at = tt

token_good : (sets : Breaks) (line : Line) (at : ℕ) (token : Token)
    → IsGoodToken token → AreGood (item_of_token sets line at token)
unfolding item_of_token
token_good sets line at (Token.Note head len) good = (sound_good (head ∷ []) true len good, tt)
token_good sets line at (Token.Rest seen len) good = (sound_good [] seen len good, tt)
token_good sets line at (Token.Measures seen count) good = (good, tt)
token_good sets line at (Token.Chord chord) good = (chord_good chord good.1 good.2, tt)
token_good sets line at (Token.Grace slash body) good = (good, tt)
token_good sets line at (Token.Tuplet p q r) good = (good, tt)
token_good sets line at (Token.Inline letter text) good =
    field_given_good (named_field letter text) line.number at (named_good letter text)
token_good sets line at Token.Cut good = cut_good (is_on sets _) line.number at
token_good sets line at _ good = (tt, tt)

tokens_good : (sets : Breaks) (line : Line) (ts : List Placed)
    → AreGoodTokens ts → AreGood (flat_map (placed_given sets line) ts)
tokens_good sets line [] good = tt
tokens_good sets line (placed ∷ ts) good =
    both_good (placed_given sets line placed) (flat_map (placed_given sets line) ts)
    (token_good sets line placed.column placed.token good.0) (tokens_good sets line ts good.1)

end_good : (sets : Breaks) (line : Line) (fault : Option Fault) → AreGood (item_of_line_end sets line fault)
end_good sets line None = (tt, tt)
end_good sets line (Some fault) = tt

-- ---- the items of lines
line_by : (sets : Breaks) (line : Line) (kind : LineKind)
    → (given : List ItemOrFault) × KindGives sets line kind given × AreGood given
line_by sets line LineKind.Music =
    let n = length line.text in
    let prefix = has_prefix sets.bang n PieceBefore.Other 0 line.text in
    let fault = option_map (fault_at line) prefix.1 in
    let tokens = flat_map (placed_given sets line) prefix.0 in
    let prefix_good = good_prefix sets.bang n PieceBefore.Other 0 line.text prefix.0 prefix.1 prefix.2 in
    let good = tokens_good sets line prefix.0 prefix_good in (
      tokens ++ item_of_line_end sets line fault,
      (prefix.0, fault, (prefix.1, prefix.2, refl), refl),
      both_good tokens (item_of_line_end sets line fault) good (end_good sets line fault),
    )
line_by sets line _ = (
  item_of_field (field_of line.text) line.number 1,
  refl,
  field_given_good (field_of line.text) line.number 1 (field_good line.text),
)

has_given : (sets : Breaks) (lines : List Line)
    → (given : List ItemOrFault) × BodyGives sets lines given × AreGood given
has_given sets [] = ([], no_lines, tt)
has_given sets (line ∷ lines) =
    let first = line_by sets line (kind_of line.text) in let others = has_given sets lines in (
      first.0 ++ others.0,
      one_line line lines first.0 others.0 (first.0 ++ others.0) first.1 others.1 refl,
      both_good first.0 others.0 first.2 others.2,
    )

items_good : (given : List ItemOrFault) → AreGood given → All IsGoodItem (items_in given)
items_good [] good = All-nil IsGoodItem
items_good (fails fault ∷ given) good = items_good given good
items_good (gives i ∷ given) good = All-cons IsGoodItem i (items_in given) good.0 (items_good given good.1)

abbrev HasBody : Header → List Line → Type 0
HasBody h lines =
    ((f : Fault) × HasFault h lines f) ⊎ ((items : List BodyItem) × IsBody h lines items × All IsGoodItem items)

body_by : (h : Header) (lines : List Line) (given : List ItemOrFault) (fault : Option Fault)
    → BodyGives h.breaks lines given → AreGood given
    → first_item_fault (judged_items (declared_ids h) given) ≡ fault
    → HasBody h lines
body_by h lines given (Some fault) so good e =
    inl (
      fault,
      record {
        count = length lines;
        given = given;
        gives_so = subst (λ ls. BodyGives h.breaks ls given) (sym (take-length lines)) so;
        first = e;
      },
    )
body_by h lines given None so good e =
    inr (items_in given, record { given = given; gives_so = so; clear = e; are = refl }, items_good given good)

body_or_fault : (h : Header) (lines : List Line) → HasBody h lines
body_or_fault h lines =
    let all = has_given h.breaks lines in
    body_by h lines all.0 (first_item_fault (judged_items (declared_ids h) all.0)) all.1 all.2 refl

pub has_body : (h : Header) (lines : List Line)
    → (one : HasOneResult (IsBodyResult h lines)) × IfOk one.0 (λ items. All IsGoodItem items)
has_body h lines = elim (body_or_fault h lines) [
  | inl f ↦ ((Err f.0, f.1, one_body h lines (Err f.0) f.1), tt)
  | inr b ↦ ((Ok b.0, b.1, one_body h lines (Ok b.0) b.1), b.2)
]
