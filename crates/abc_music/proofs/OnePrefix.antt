-- A music line gives one list of tokens up to its first fault, and one such fault, or none. So it has one list of
-- tokens, or one first fault, and not both.
use Rattle.std.proofs.Common.{◌≡◌, ◌∙◌, refl, sym, ap, ℕ, List, [], length, Bool, Option, Some, None, Result}
use Rattle.std.proofs.Common.{Ok, Err}
use Rattle.std.specs.Prelude.{MatchOption, ◌==◌, option_map}
use Rattle.abc_lines.specs.declared.book.Line.{Line}
use Rattle.abc_lines.specs.declared.fault.Fault.{Fault}
use Rattle.abc_lines.specs.declared.fault.FaultKind.{FaultKind}
use Rattle.abc_lines.specs.Results.{IsOnlyResult}
use Rattle.abc_notes.specs.declared.part.Flaw.{Flaw}
use Rattle.abc_pieces.specs.Forms.{after, opening}
use Rattle.abc_pieces.specs.declared.token.PieceBefore.{PieceBefore}
use Rattle.abc_pieces.specs.declared.token.BracketOpening.{BracketOpening}
use Rattle.abc_pieces.proofs.PieceReader.{piece_reader}
use Rattle.abc_music.specs.declared.token.Placed.{Placed}
use Rattle.abc_music.specs.Tokens.{Tokens, ends, goes, Faulty, stuck, later, GivesTokens, clear, breaks, leads}
use Rattle.abc_music.specs.Tokens.{TokensOf, FlawOf, GivesTokensOf, kind_after, IsBracketFlaw, IsOwnFlaw, fault_at}
use Rattle.abc_music.specs.Tokens.{IsLineResult}
use Rattle.abc_notes.proofs.PartFaults.{by_test, none_at_end, one_longest}
use Rattle.abc_notes.proofs.ChordFaults.{one_chord_fault, one_grace_fault}

one_bracket : (o : BracketOpening) (bang : Bool) (byte : ℕ) (s : List ℕ) (f g : Flaw)
    → IsBracketFlaw o bang byte s f → IsBracketFlaw o bang byte s g → f ≡ g
one_bracket BracketOpening.Chord bang byte s f g a b = one_chord_fault bang s f g a b
one_bracket _ bang byte s f g a b = a ∙ sym b

by_kind : (bang : Bool) (at byte : ℕ) (s : List ℕ) (f g : Flaw) (o : Option FaultKind)
    → MatchOption o (IsOwnFlaw bang byte s f) (λ kind. f ≡ record { kind = kind; left = at })
    → MatchOption o (IsOwnFlaw bang byte s g) (λ kind. g ≡ record { kind = kind; left = at }) → f ≡ g
by_kind bang at byte s f g None a b =
    by_test (byte == 34) (λ x y. x ∙ sym y)
    (by_test (byte == 91) (one_bracket (opening s) bang byte s f g)
    (by_test (byte == 123) (one_grace_fault bang s f g) (λ x y. x ∙ sym y)))
    a b
by_kind bang at byte s f g (Some kind) a b = a ∙ sym b

one_prefix : (bang : Bool) (n : ℕ) (before : PieceBefore) (at : ℕ) (s : List ℕ) (ts : List Placed) (e : Option Flaw)
    (us : List Placed) (d : Option Flaw)
    → GivesTokens bang n before at s ts e → GivesTokens bang n before at s us d → (ts ≡ us) × (e ≡ d)
one_prefix bang n _ _ _ _ _ _ _ (clear _ _) (clear _ _) = (refl, refl)
one_prefix bang n _ _ _ _ _ _ _ (clear before at) (leads _ _ _ f rest _ _ _ l _ _) =
    absurd (none_at_end (piece_reader bang before) f rest l.stands)
one_prefix bang n _ _ _ _ _ _ _ (breaks before at byte s f _ a) (breaks _ _ _ _ g _ b) =
    (refl, ap Some (by_kind bang at byte s f g (kind_after before byte) a b))
one_prefix bang n _ _ _ _ _ _ _ (breaks _ _ _ _ _ none _) (leads _ _ _ f rest _ _ _ l _ _) =
    absurd (none f rest l.stands)
one_prefix bang n _ _ _ _ _ _ _ (leads before at _ f rest _ _ _ l _ _) (clear _ _) =
    absurd (none_at_end (piece_reader bang before) f rest l.stands)
one_prefix bang n _ _ _ _ _ _ _ (leads _ _ _ f rest _ _ _ l _ _) (breaks _ _ _ _ _ none _) =
    absurd (none f rest l.stands)
one_prefix bang n _ _ _ _ _ _ _ (leads before at s f rest ts all end l a is)
    (leads _ _ _ g other us those stop m b so) =
    let same = one_longest (piece_reader bang before) s g f other rest m l in
    let more = one_prefix bang n (after f) (length s) rest ts end us stop a (rw (same.0, same.1) at b) in
    (is ∙ sym (so ∙ rw (same.0, more.0) refl), more.1)

pub one_prefix_of : (bang : Bool) (line : Line) (ts us : List Placed) (f g : Option Fault)
    → GivesTokensOf bang line ts f → GivesTokensOf bang line us g → (ts ≡ us) × (f ≡ g)
one_prefix_of bang line ts us f g a b =
    let o = one_prefix bang (length line.text) _ 0 line.text ts a.0 us b.0 a.1 b.1 in
    (o.0, a.2 ∙ ap (option_map (fault_at line)) o.1 ∙ sym b.2)

-- ---- the list and the fault
prefix_of_tokens : (bang : Bool) (n : ℕ) (before : PieceBefore) (at : ℕ) (s : List ℕ) (ts : List Placed)
    → Tokens bang n before s ts → GivesTokens bang n before at s ts None
prefix_of_tokens bang n _ at _ _ (ends before) = clear before at
prefix_of_tokens bang n _ at _ _ (goes before s f rest ts all l more is) =
    leads before at s f rest ts all None l (prefix_of_tokens bang n (after f) (length s) rest ts more) is

prefix_of_flaw : (bang : Bool) (n : ℕ) (before : PieceBefore) (at : ℕ) (s : List ℕ) (flaw : Flaw)
    → Faulty bang before at s flaw → (ts : List Placed) × GivesTokens bang n before at s ts (Some flaw)
prefix_of_flaw bang n _ _ _ _ (stuck before at byte s flaw none is) = ([], breaks before at byte s flaw none is)
prefix_of_flaw bang n _ _ _ _ (later before at s f rest flaw l more) =
    let prefix = prefix_of_flaw bang n (after f) (length s) rest flaw more in
    (_, leads before at s f rest prefix.0 _ (Some flaw) l prefix.1 refl)

one_list : (bang : Bool) (text : List ℕ) (ts us : List Placed)
    → TokensOf bang text ts → TokensOf bang text us → ts ≡ us
one_list bang text ts us a b =
    (one_prefix bang (length text) PieceBefore.Other 0 text ts None us None
    (prefix_of_tokens bang (length text) PieceBefore.Other 0 text ts a)
    (prefix_of_tokens bang (length text) PieceBefore.Other 0 text us b)).0

pub no_list : (bang : Bool) (text : List ℕ) (flaw : Flaw) (ts : List Placed)
    → FlawOf bang text flaw → TokensOf bang text ts → ⊥
no_list bang text flaw ts a b =
    let prefix = prefix_of_flaw bang (length text) PieceBefore.Other 0 text flaw a in
    let clash = (one_prefix bang (length text) PieceBefore.Other 0 text prefix.0 (Some flaw) ts None prefix.1
    (prefix_of_tokens bang (length text) PieceBefore.Other 0 text ts b)).1 in
    cc

one_flaw : (bang : Bool) (text : List ℕ) (f g : Flaw) → FlawOf bang text f → FlawOf bang text g → f ≡ g
one_flaw bang text f g a b =
    let p = prefix_of_flaw bang (length text) PieceBefore.Other 0 text f a in
    let q = prefix_of_flaw bang (length text) PieceBefore.Other 0 text g b in
    let same = (one_prefix bang (length text) PieceBefore.Other 0 text p.0 (Some f) q.0 (Some g) p.1 q.1).1 in cc

pub one_result : (bang : Bool) (line : Line) (result : Result (List Placed) Fault)
    → IsLineResult bang line result → IsOnlyResult (IsLineResult bang line) result
one_result bang line (Ok ts) a (Ok us) b = ap Ok (one_list bang line.text ts us a b)
one_result bang line (Ok ts) a (Err g) b = absurd (b.3 ts a)
one_result bang line (Err f) a (Ok us) b = absurd (a.3 us b)
one_result bang line (Err f) a (Err g) b =
    ap Err (a.2 ∙ ap (fault_at line) (one_flaw bang line.text a.0 b.0 a.1 b.1) ∙ sym b.2)
