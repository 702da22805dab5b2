-- A line as a loop reads it.
use Rattle.std.proofs.Common.{◌≡◌, ℕ, ◌≤◌, ◌<◌, Bool, List, [], ◌∷◌, ◌++◌, length, Option, Some, None, refl, sym, ap}
use Rattle.std.proofs.Common.{◌∙◌, subst, arith, append_assoc, append-nil, length-append, ◌+◌, option_map}
use Rattle.abc_lines.specs.declared.{book.Line.Line, fault.Fault.Fault, fault.TuneError.TuneError}
use Rattle.abc_notes.specs.Parts.{IsLongest}
use Rattle.abc_notes.specs.Chords.{ChordForm, chord_at}
use Rattle.abc_notes.specs.Graces.{GraceForm, grace_at}
use Rattle.abc_notes.specs.declared.part.Flaw.{Flaw}
use Rattle.abc_notes.proofs.PartLaws.{less, longest_of, none_of, longest_is}
use Rattle.abc_pieces.specs.Forms.{Form, chord_form, grace_form, StandsAt, token_meant, after, opening}
use Rattle.abc_pieces.specs.Reading.{FormAndRest, read, piece_at, token_and_rest, meaning, class_of, bracket_form}
use Rattle.abc_pieces.specs.Reading.{chord_read, grace_read}
use Rattle.abc_pieces.specs.declared.token.Token.{Token}
use Rattle.abc_pieces.specs.declared.token.PieceBefore.{PieceBefore}
use Rattle.abc_pieces.specs.declared.token.BracketOpening.{BracketOpening}
use Rattle.abc_pieces.proofs.PieceReader.{piece_reader}
use Rattle.abc_music.specs.declared.token.Placed.{Placed}
use Rattle.abc_music.specs.declared.token.TokenCursor.{TokenCursor}
use Rattle.abc_music.specs.Tokens.{Tokens, ends, goes, Faulty, stuck, later, GivesTokens, clear, breaks, leads, column}
use Rattle.abc_music.specs.Tokens.{with_token, TokensOf, GivesTokensAt, GivesTokensOf, IsLineFlaw, fault_at, IsErrorOf}
use Rattle.abc_music.specs.Tokens.{IsStart, GivesTokensFrom, LeadsTo}
use Rattle.abc_music.proofs.OnePrefix.{no_list}

abbrev longest_piece : Bool → PieceBefore → List ℕ → Form → List ℕ → Type 0
longest_piece bang before s f rest = IsLongest Form (StandsAt bang before) s f rest

put_append : (t : Option Token) (at : ℕ) (ts : List Placed) → with_token t at ts ≡ with_token t at [] ++ ts
put_append None at ts = refl
put_append (Some t) at ts = refl

pub put_few : (t : Option Token) (at : ℕ) (so_far new : List Placed)
    → new ≡ so_far ++ with_token t at [] → length new ≤ length so_far + 1
put_few None at so_far new is = omega (arith, ap length is, length-append so_far [])
put_few (Some t) at so_far new is = omega (arith, ap length is, length-append so_far (with_token (Some t) at []))

-- what the result of a reader's call states
pub record Found (bang : Bool) (before : PieceBefore) (s : List ℕ) (t : Option Token) (next : PieceBefore)
    (rest : List ℕ) : Type 0 where
  pub form : Form
  pub is : piece_at bang before s ≡ read form rest
  pub token : t ≡ token_meant form
  pub tells : next ≡ after form

from_read : (bang : Bool) (before : PieceBefore) (s : List ℕ) (t : Option Token) (next : PieceBefore) (rest : List ℕ)
    (r : FormAndRest)
    → piece_at bang before s ≡ r → Some (token_and_rest t next rest) ≡ meaning r → Found bang before s t next rest
from_read bang before s t next rest None e h = absurd cc
from_read bang before s t next rest (Some z) e h =
    let same : token_and_rest t next rest ≡ token_and_rest (token_meant z.0) (after z.0) z.1 = cc in
    record {
      form = z.0;
      is = e ∙ ap (λ x. read z.0 x) (sym (ap (λ p. p.2) same));
      token = ap (λ p. p.0) same;
      tells = ap (λ p. p.1) same;
    }

pub found : (bang : Bool) (before : PieceBefore) (s : List ℕ) (t : Option Token) (next : PieceBefore) (rest : List ℕ)
    → Some (token_and_rest t next rest) ≡ meaning (piece_at bang before s) → Found bang before s t next rest
found bang before s t next rest h = from_read bang before s t next rest (piece_at bang before s) refl h

longest : (bang : Bool) (before : PieceBefore) (s : List ℕ) (f : Form) (rest : List ℕ)
    → piece_at bang before s ≡ read f rest → longest_piece bang before s f rest
longest bang before s f rest e = longest_of (piece_reader bang before) s (f, rest) e

is_read : (bang : Bool) (before : PieceBefore) (s : List ℕ) (f : Form) (rest : List ℕ)
    → longest_piece bang before s f rest → piece_at bang before s ≡ read f rest
is_read bang before s f rest l = longest_is (piece_reader bang before) s f rest l

pub consumes : (bang : Bool) (before : PieceBefore) (s : List ℕ) (t : Option Token) (next : PieceBefore) (rest : List ℕ)
    → Some (token_and_rest t next rest) ≡ meaning (piece_at bang before s) → length rest < length s
consumes bang before s t next rest h =
    let f = found bang before s t next rest h in less (piece_reader bang before) s (f.form, rest) f.is

-- one piece further
pub step : (bang : Bool) (line : Line) (place at next : TokenCursor) (so_far new : List Placed) (here : ℕ)
    (t : Option Token)
    → LeadsTo bang line place so_far at
    → Some (token_and_rest t next.before next.rest.now) ≡ meaning (piece_at bang at.before at.rest.now)
    → next.at ≡ length at.rest.now → here ≡ column (length line.text) next.at → new ≡ so_far ++ with_token t here []
    → LeadsTo bang line place new next
step bang line place at next so_far new here t so h where_is is_column is =
    let f = found bang at.before at.rest.now t next.before next.rest.now h in
    let l = longest bang at.before at.rest.now f.form next.rest.now f.is in
    λ ts fault more.
    let all : List Placed = with_token t here ts in
    let prefix = subst (λ a. GivesTokens bang (length line.text) (after f.form) a next.rest.now ts more.0) where_is
    (subst (λ b. GivesTokens bang (length line.text) b next.at next.rest.now ts more.0) f.tells more.1) in
    let one = leads at.before at.at at.rest.now f.form next.rest.now ts all more.0 l prefix
    (ap (λ o. with_token o here ts) f.token
    ∙ ap (λ c. with_token (token_meant f.form) c ts) (is_column ∙ ap (column (length line.text)) where_is)) in
    subst (λ us. GivesTokensFrom bang line place us fault)
    (ap (λ us. so_far ++ us) (put_append t here ts)
    ∙ sym (append_assoc so_far (with_token t here []) ts)
    ∙ ap (λ us. us ++ ts) (sym is))
    (so all fault (more.0, one, more.2))

from_start : (bang : Bool) (line : Line) (ts : List Placed) (end : Option Flaw) (before : PieceBefore) (at : ℕ)
    (rest : List ℕ) → rest ≡ line.text → before ≡ PieceBefore.Other → at ≡ 0
    → GivesTokens bang (length line.text) before at rest ts end
    → GivesTokensAt bang line.text ts end
from_start bang line ts end before at rest r b a prefix =
    subst (λ x. GivesTokens bang (length line.text) PieceBefore.Other 0 x ts end) r
    (subst (λ x. GivesTokens bang (length line.text) PieceBefore.Other x rest ts end) a
    (subst (λ x. GivesTokens bang (length line.text) x at rest ts end) b prefix))

-- tokens lead from the start of a line to a position
abbrev pub ReadTo : Bool → Line → List Placed → TokenCursor → Type 0
ReadTo bang line so_far place =
    (more : List Placed) (fault : Option Fault)
    → GivesTokensFrom bang line place more fault → GivesTokensOf bang line (so_far ++ more) fault

pub read_none : (bang : Bool) (line : Line) (place : TokenCursor) → IsStart line place → ReadTo bang line [] place
read_none bang line place start =
    λ more fault from. (
      from.0,
      from_start bang line more from.0 place.before place.at place.rest.now start.rest start.before start.at from.1,
      from.2,
    )

pub read_more : (bang : Bool) (line : Line) (place next : TokenCursor) (so_far ts new : List Placed)
    → ReadTo bang line so_far place → LeadsTo bang line place ts next → new ≡ so_far ++ ts → ReadTo bang line new next
read_more bang line place next so_far ts new so on is =
    λ more fault from.
    subst (λ us. GivesTokensOf bang line us fault) (sym (append_assoc so_far ts more) ∙ ap (λ us. us ++ more) (sym is))
    (so (ts ++ more) fault (on more fault from))

ends_there : (bang : Bool) (n : ℕ) (before : PieceBefore) (at : ℕ) (rest : List ℕ)
    → length rest ≡ 0 → GivesTokens bang n before at rest [] None
ends_there bang n before at [] h = clear before at
ends_there bang n before at (b ∷ rest) h = absurd (omega (arith, h))

pub done_at : (bang : Bool) (line : Line) (place at : TokenCursor) (so_far : List Placed)
    → LeadsTo bang line place so_far at → length at.rest.now ≡ 0 → GivesTokensFrom bang line place so_far None
done_at bang line place at so_far so h =
    subst (λ us. GivesTokensFrom bang line place us None) (append-nil so_far)
    (so [] None (None, ends_there bang (length line.text) at.before at.at at.rest.now h, refl))

no_read : (r : FormAndRest) → None ≡ meaning r → r ≡ None
no_read None h = refl
no_read (Some z) h = absurd cc

pub none_at : (bang : Bool) (before : PieceBefore) (s t : List ℕ) (byte : ℕ)
    → s ≡ byte ∷ t → None ≡ meaning (piece_at bang before s) → piece_at bang before (byte ∷ t) ≡ None
none_at bang before s t byte cut none = ap (piece_at bang before) (sym cut) ∙ no_read (piece_at bang before s) none

pub stuck_at : (bang : Bool) (line : Line) (place at : TokenCursor) (so_far : List Placed) (byte : ℕ) (t : List ℕ)
    (flaw : Flaw) (fault : Fault)
    → LeadsTo bang line place so_far at → at.rest.now ≡ byte ∷ t
    → None ≡ meaning (piece_at bang at.before at.rest.now) → IsLineFlaw bang at.before at.at byte t flaw
    → fault ≡ fault_at line flaw
    → GivesTokensFrom bang line place so_far (Some fault)
stuck_at bang line place at so_far byte t flaw fault so cut none is reported =
    let nothing =
    none_of (piece_reader bang at.before) (byte ∷ t) (none_at bang at.before at.rest.now t byte cut none) in
    let one : GivesTokens bang (length line.text) at.before at.at at.rest.now [] (Some flaw) =
    rw cut (breaks at.before at.at byte t flaw nothing is) in
    subst (λ us. GivesTokensFrom bang line place us (Some fault)) (append-nil so_far)
    (so [] (Some fault) (Some flaw, one, ap Some reported))

-- a line without a fault has the tokens of its prefix, and a line with a fault has that fault
prefix_tokens : (bang : Bool) (n : ℕ) (before : PieceBefore) (at : ℕ) (s : List ℕ) (ts : List Placed)
    (end : Option Flaw)
    → GivesTokens bang n before at s ts end → end ≡ None → Tokens bang n before s ts
prefix_tokens bang n _ _ _ _ _ (clear before at) e = ends before
prefix_tokens bang n _ _ _ _ _ (breaks before at byte s flaw h is) e = absurd cc
prefix_tokens bang n _ _ _ _ _ (leads before at s f rest ts all end l more is) e =
    goes before s f rest ts all l (prefix_tokens bang n (after f) (length s) rest ts end more e) is

prefix_flaw : (bang : Bool) (n : ℕ) (before : PieceBefore) (at : ℕ) (s : List ℕ) (ts : List Placed) (end : Option Flaw)
    (flaw : Flaw)
    → GivesTokens bang n before at s ts end → end ≡ Some flaw → Faulty bang before at s flaw
prefix_flaw bang n _ _ _ _ _ flaw (clear before at) e = absurd cc
prefix_flaw bang n _ _ _ _ _ flaw (breaks before at byte s one h is) e =
    let same : one ≡ flaw = cc in subst (λ x. Faulty bang before at (byte ∷ s) x) same (stuck before at byte s one h is)
prefix_flaw bang n _ _ _ _ _ flaw (leads before at s f rest ts all end l more is) e =
    later before at s f rest flaw l (prefix_flaw bang n (after f) (length s) rest ts end flaw more e)

no_end : (line : Line) (end : Option Flaw) → None ≡ option_map (fault_at line) end → end ≡ None
no_end line None e = refl
no_end line (Some flaw) e = absurd cc

pub tokens_of : (bang : Bool) (line : Line) (ts : List Placed) (fault : Option Fault)
    → GivesTokensOf bang line ts fault → fault ≡ None → TokensOf bang line.text ts
tokens_of bang line ts fault prefix none =
    prefix_tokens bang (length line.text) PieceBefore.Other 0 line.text ts prefix.0 prefix.1
    (no_end line prefix.0 (sym none ∙ prefix.2))

error_by : (bang : Bool) (line : Line) (ts : List Placed) (fault : Fault) (end : Option Flaw)
    → GivesTokensAt bang line.text ts end → Some fault ≡ option_map (fault_at line) end
    → IsErrorOf bang line (TuneError.Fault fault)
error_by bang line ts fault None prefix e = absurd cc
error_by bang line ts fault (Some flaw) prefix e =
    let whole = prefix_flaw bang (length line.text) PieceBefore.Other 0 line.text ts (Some flaw) flaw prefix refl in
    let is : fault ≡ fault_at line flaw = cc in
    (flaw, whole, is, λ us. no_list bang line.text flaw us whole)

pub error_of : (bang : Bool) (line : Line) (ts : List Placed) (fault : Option Fault) (one : Fault)
    → GivesTokensOf bang line ts fault → fault ≡ Some one → IsErrorOf bang line (TuneError.Fault one)
error_of bang line ts fault one prefix is = error_by bang line ts one prefix.0 prefix.1 (sym is ∙ prefix.2)

-- ---- where there is no piece, there is no chord and no grace group
pub unmapped : {T U : Type 0} (f : T → U) (o : Option T) → option_map f o ≡ None → o ≡ None
unmapped f None e = refl
unmapped f (Some x) e = absurd cc

pub no_chord : (bang : Bool) (before : PieceBefore) (byte : ℕ) (t : List ℕ)
    → byte ≡ 91 → piece_at bang before (byte ∷ t) ≡ None → opening t ≡ BracketOpening.Chord → chord_at bang t ≡ None
unfolding piece_at class_of chord_read
no_chord bang before byte t is none chord =
    let here : piece_at bang before (91 ∷ t) ≡ None = ap (λ b. piece_at bang before (b ∷ t)) (sym is) ∙ none in
    let opened_is : bracket_form BracketOpening.Chord bang t ≡ None =
    ap (λ o. bracket_form o bang t) (sym chord) ∙ here in
    unmapped (λ (z : ChordForm × List ℕ). (chord_form z.0, z.1)) (chord_at bang t) opened_is

pub no_grace : (bang : Bool) (before : PieceBefore) (byte : ℕ) (t : List ℕ)
    → byte ≡ 123 → piece_at bang before (byte ∷ t) ≡ None → grace_at bang t ≡ None
unfolding piece_at class_of grace_read
no_grace bang before byte t is none =
    let here : piece_at bang before (123 ∷ t) ≡ None = ap (λ b. piece_at bang before (b ∷ t)) (sym is) ∙ none in
    unmapped (λ (z : GraceForm × List ℕ). (grace_form z.0, z.1)) (grace_at bang t) here
