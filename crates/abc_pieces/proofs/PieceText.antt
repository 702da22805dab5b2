-- What a piece is read as, where the code assembles it.
use Rattle.std.proofs.Common.{◌≡◌, ℕ, suc, ◌+◌, Bool, true, List, ◌∷◌, Option, Some, None, take, drop, refl, ap, arith}
use Rattle.std.specs.List.{prefix_len}
use Rattle.{mus_units.specs.Bytes.{is_digit}, abc_notes.specs.{Runs.span_all, Decorations.deco_of_letter}}
use Rattle.abc_pieces.specs.declared.token.PieceBefore.{PieceBefore}
use Rattle.abc_pieces.specs.declared.token.Token.{Token}
use Rattle.abc_pieces.specs.declared.token.PieceClass.{PieceClass}
use Rattle.abc_pieces.specs.Forms.{is_ending, letter_form}
use Rattle.abc_pieces.specs.Reading.{FormAndRest, read, or_else, ending_read, token_and_rest, meaning, class_of}
use Rattle.abc_pieces.proofs.Classes.{fact_of}

pub ending_is : (bracket : Bool) (s : List ℕ) (b : ℕ) (rest : List ℕ) (k : ℕ) (text after : List ℕ)
    → s ≡ b ∷ rest → is_digit b ≡ true → k ≡ prefix_len is_ending rest → text ≡ take (1 + k) s → after ≡ drop (1 + k) s
    → Some (token_and_rest (Some (Token.Ending text)) PieceBefore.Other after) ≡ meaning (ending_read bracket s)
unfolding ending_read span_all
ending_is bracket s b rest k text after cut digit count prefix back =
    let more : 1 + k ≡ suc k = omega arith in rw (prefix, back, more, cut, digit, ← count) refl

pub letter_or_bar : (r : FormAndRest) (t : Option Token) (next : PieceBefore) (rest left : List ℕ)
    → None ≡ meaning r
    → token_and_rest t next left ≡ token_and_rest (Some (Token.Deco (deco_of_letter 46))) PieceBefore.Other rest
    → Some (token_and_rest t next left) ≡ meaning (or_else r (read (letter_form 46) rest))
letter_or_bar None t next rest left none is = ap Some is
letter_or_bar (Some z) t next rest left none is = absurd cc

pub first_dot : (b : ℕ) → class_of b ≡ PieceClass.Dot → b ≡ 46
first_dot b e = fact_of b PieceClass.Dot e

pub first_bracket : (b : ℕ) → class_of b ≡ PieceClass.Bracket → b ≡ 91
first_bracket b e = fact_of b PieceClass.Bracket e
