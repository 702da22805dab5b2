-- The words of a body are on its lines in their order, so their line numbers increase.
use Rattle.std.{specs.Prelude.{⊤, flat_map, Result, Ok, Err}, proofs.Common.{Some, None}}
use Rattle.std.proofs.Common.{drop, arith, ◌≡◌, ◌∙◌, refl, sym, ap, subst, ℕ, zero, suc, ◌≤◌, ◌<◌, List, [], ◌∷◌, ◌++◌}
use Rattle.std.proofs.Common.{Bool, true, false, Option}
use Rattle.abc_pieces.specs.declared.token.Token.{Token}
use Rattle.abc_music.specs.declared.token.Placed.{Placed}
use Rattle.abc_steps.specs.declared.step.BodyItem.{BodyItem}
use Rattle.abc_field.specs.{declared.{directive.Breaks.Breaks, field.Field.Field}, Fields.{field_of, named_field}}
use Rattle.{abc_fields.specs.declared.header.Header.Header, abc_score.specs.Order.{DoWordsRiseFrom, DoWordsRise}}
use Rattle.abc_lines.specs.declared.book.Line.{Line}
use Rattle.abc_lines.specs.declared.fault.Fault.{Fault}
use Rattle.abc_lines.specs.declared.fault.FaultKind.{FaultKind}
use Rattle.abc_lines.specs.declared.kind.LineKind.{LineKind}
use Rattle.abc_lines.specs.Good.{NumbersRise}
use Rattle.abc_lines.specs.Kinds.{kind_of}
use Rattle.abc_items.specs.Body.{ItemOrFault, gives, fails, field_item, item_of_field, cut_given, is_on, item_of_token}
use Rattle.abc_items.specs.Body.{placed_given, item_of_line_end, KindGives}
use Rattle.abc_items.specs.Body.{BodyGives, no_lines, one_line, items_in, IsBody}

-- all words are on this line
abbrev AreAt : ℕ → List ItemOrFault → Type 0
AreAt line [] = ⊤
AreAt line (gives (BodyItem.Words text at) ∷ given) = (at ≡ line) × AreAt line given
AreAt line (_ ∷ given) = AreAt line given

both_at : (line : ℕ) (g h : List ItemOrFault) → AreAt line g → AreAt line h → AreAt line (g ++ h)
both_at line [] h are also = also
both_at line (gives (BodyItem.Words text at) ∷ g) h are also = (are.0, both_at line g h are.1 also)
both_at line (_ ∷ g) h are also = both_at line g h are also

field_at : (field : Field) (line column : ℕ) → AreAt line (field_item field line column)
field_at (Field.Words text) line column = (refl, tt)
field_at _ line column = tt

given_at : (read : Result Field FaultKind) (line column : ℕ) → AreAt line (item_of_field read line column)
given_at (Ok field) line column = field_at field line column
given_at (Err kind) line column = tt

cut_at : (on : Bool) (line column : ℕ) → AreAt line (cut_given on line column)
cut_at true line column = tt
cut_at false line column = tt

token_at : (breaks : Breaks) (line : Line) (column : ℕ) (t : Token)
    → AreAt line.number (item_of_token breaks line column t)
unfolding item_of_token
token_at breaks line column (Token.Inline letter text) = given_at (named_field letter text) line.number column
token_at breaks line column Token.Cut = cut_at (is_on breaks _) line.number column
token_at breaks line column _ = tt

tokens_at : (breaks : Breaks) (line : Line) (tokens : List Placed)
    → AreAt line.number (flat_map (placed_given breaks line) tokens)
tokens_at breaks line [] = tt
tokens_at breaks line (t ∷ tokens) =
    both_at line.number (placed_given breaks line t) _ (token_at breaks line t.column t.token)
    (tokens_at breaks line tokens)

end_at : (breaks : Breaks) (line : Line) (fault : Option Fault) → AreAt line.number (item_of_line_end breaks line fault)
end_at breaks line None = tt
end_at breaks line (Some fault) = tt

line_at : (breaks : Breaks) (line : Line) (kind : LineKind) (given : List ItemOrFault)
    → KindGives breaks line kind given → AreAt line.number given
line_at breaks line LineKind.Music given (tokens, fault, prefix, is) =
    rw is (both_at line.number (flat_map (placed_given breaks line) tokens) _ (tokens_at breaks line tokens)
    (end_at breaks line fault))
line_at breaks line _ given is = rw is (given_at (field_of line.text) line.number 1)

-- from a lower line on
from_lower : (low high : ℕ) (items : List BodyItem)
    → low ≤ high → DoWordsRiseFrom high items → DoWordsRiseFrom low items
from_lower low high [] less rise = tt
from_lower low high (BodyItem.Words text line ∷ items) less rise =
    let first : high ≤ line = rise.0 in (omega arith, rise.1)
from_lower low high (_ ∷ items) less rise = from_lower low high items less rise

with_line : (line low : ℕ) (g : List ItemOrFault) (others : List BodyItem)
    → low ≤ line → AreAt line g → DoWordsRiseFrom line others
    → DoWordsRiseFrom low (items_in g ++ others)
with_line line low [] others less are rise = from_lower low line others less rise
with_line line low (gives (BodyItem.Words text at) ∷ g) others less are rise =
    let same : at ≡ line = are.0 in (omega arith, with_line line at g others (omega arith) are.1 rise)
with_line line low (_ ∷ g) others less are rise = with_line line low g others less are rise

items_both : (g h : List ItemOrFault) → items_in (g ++ h) ≡ items_in g ++ items_in h
items_both [] h = refl
items_both (fails fault ∷ g) h = items_both g h
items_both (gives i ∷ g) h = ap (λ is. i ∷ is) (items_both g h)

-- lines at a number or after it
abbrev IsUnder : ℕ → List Line → Type 0
IsUnder low [] = ⊤
IsUnder low (line ∷ lines) = low ≤ line.number

others_rise : (line : Line) (lines : List Line) → NumbersRise (line ∷ lines) → NumbersRise lines
others_rise line [] rise = tt
others_rise line (next ∷ lines) rise = rise.1

is_under : (line : Line) (lines : List Line) → NumbersRise (line ∷ lines) → IsUnder line.number lines
is_under line [] rise = tt
is_under line (next ∷ lines) rise = let less : line.number < next.number = rise.0 in omega arith

given_rise : (breaks : Breaks) (lines : List Line) (given : List ItemOrFault) (low : ℕ)
    → BodyGives breaks lines given → NumbersRise lines
    → IsUnder low lines → DoWordsRiseFrom low (items_in given)
given_rise breaks _ _ low no_lines rise under = tt
given_rise breaks _ _ low (one_line line lines first others all one more is) rise under =
    let later =
    given_rise breaks lines others line.number more (others_rise line lines rise) (is_under line lines rise) in
    subst (DoWordsRiseFrom low) (sym (items_both first others) ∙ ap items_in (sym is))
    (with_line line.number low first (items_in others) under (line_at breaks line (kind_of line.text) first one) later)

from_zero : (lines : List Line) → IsUnder 0 lines
from_zero [] = tt
from_zero (line ∷ lines) = omega arith

rise_after : (lines : List Line) (k : ℕ) → NumbersRise lines → NumbersRise (drop k lines)
rise_after lines zero rise = rise
rise_after [] (suc k) rise = tt
rise_after (line ∷ lines) (suc k) rise = rise_after lines k (others_rise line lines rise)

pub words_rise_after : {header : Header} {following : List Line} {items found : List BodyItem} (lines : List Line)
    (k : ℕ)
    → NumbersRise lines
    → following ≡ drop k lines → IsBody header following items → found ≡ items → DoWordsRise found
words_rise_after {header = header} {following = following} lines k rise cut body same =
    let own = subst NumbersRise (sym cut) (rise_after lines k rise) in
    subst DoWordsRise (sym (same ∙ body.are))
    (given_rise header.breaks following body.given 0 body.gives_so own (from_zero following))
