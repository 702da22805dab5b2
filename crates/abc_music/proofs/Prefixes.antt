-- Where there is no piece there is a fault, so a line has a prefix from each of its positions on.
use Rattle.std.specs.Prelude.{◌==◌, MatchBool, MatchOption}
use Rattle.std.proofs.Common.{◌≡◌, ℕ, zero, suc, ◌+◌, ◌≤◌, ◌<◌, Bool, true, false, List, [], ◌∷◌, ◌++◌, length, Option}
use Rattle.std.proofs.Common.{Some, None, refl, sym, ap, ◌∙◌, subst, arith, append-nil, eqb-true, option_map}
use Rattle.std.proofs.lemmas.Bool.{eqb-false}
use Rattle.abc_lines.specs.declared.book.Line.{Line}
use Rattle.abc_lines.specs.declared.fault.Fault.{Fault}
use Rattle.abc_lines.specs.declared.fault.FaultKind.{FaultKind}
use Rattle.abc_lines.specs.declared.fault.FaultKind.TheVariants.{BadByte, Unclosed, BadLength}
use Rattle.abc_notes.specs.Parts.{Flawed, stuck_here, stuck_later, IsFlaw, goes_on_length, length_at_place, walk}
use Rattle.abc_notes.specs.Parts.{is_done}
use Rattle.abc_notes.specs.Items.{has_length, IsBadByte, inner_at}
use Rattle.abc_notes.specs.Runs.{begins, skip, span_all}
use Rattle.abc_notes.specs.Chords.{ChordFault, is_inside, is_bracket, chord_at}
use Rattle.abc_notes.specs.Graces.{GraceFault, IsGraceOwn, part_has_length, is_in_grace, grace_part_at, grace_at}
use Rattle.abc_notes.specs.declared.part.Flaw.{Flaw}
use Rattle.abc_notes.proofs.PartLaws.{Reader, none_of, longest_of, less, by_parts, walk-none, walk-some}
use Rattle.abc_notes.proofs.InnerLaws.{inner_reader}
use Rattle.abc_notes.proofs.ChordLaws.{chord-unclosed, chord-open, chord-headless, chord-flawed}
use Rattle.abc_notes.proofs.GraceLaws.{no_chord as no_chord_in_grace, part_reader, grace-unclosed, grace-open}
use Rattle.abc_notes.proofs.GraceLaws.{grace-flawed}
use Rattle.abc_pieces.specs.Forms.{token_meant, after, opening}
use Rattle.abc_pieces.specs.Reading.{FormAndRest, piece_at}
use Rattle.abc_pieces.specs.declared.token.PieceBefore.{PieceBefore}
use Rattle.abc_pieces.specs.declared.token.BracketOpening.{BracketOpening}
use Rattle.abc_pieces.proofs.PieceReader.{piece_reader}
use Rattle.abc_music.specs.declared.token.Placed.{Placed}
use Rattle.abc_music.specs.declared.token.TokenCursor.{TokenCursor}
use Rattle.abc_music.specs.declared.token.LineRest.{LineRest}
use Rattle.abc_music.specs.Good.{AreGoodTokens}
use Rattle.abc_music.specs.Tokens.{GivesTokens, clear, breaks, leads, column, with_token, kind_after, IsHere}
use Rattle.abc_music.specs.Tokens.{IsBracketFlaw, IsOwnFlaw, fault_at, GivesTokensFrom, PartOf}
use Rattle.abc_music.proofs.GoodLaws.{good_prefix}
use Rattle.abc_music.proofs.Line.{no_chord, no_grace}

abbrev HasFlaw : (Flaw → Type 0) → Type 0
HasFlaw Is = (flaw : Flaw) × Is flaw

here : (kind : FaultKind) (s : List ℕ) → HasFlaw (IsHere kind s)
here kind s = (record { kind = kind; left = length s }, refl)

by_test : {A B : Flaw → Type 0} (b : Bool)
    → (b ≡ true → HasFlaw A) → HasFlaw B → HasFlaw (λ flaw. MatchBool b (A flaw) (B flaw))
by_test true one other = one refl
by_test false one other = other

-- parts that stop before the end of a text have a first fault
module _ {I : Type 0} {Stands : I → List ℕ → List ℕ → Type 0} {at : List ℕ → Option (I × List ℕ)}
    (r : Reader I Stands at)
    (lengthy : I → Bool) (Own : List ℕ → Flaw → Type 0)
    (own : (byte : ℕ) (s : List ℕ) → at (byte ∷ s) ≡ None → HasFlaw (Own (byte ∷ s))) where
  flaw_there : (before : Option ℕ) (byte : ℕ) (s : List ℕ) → at (byte ∷ s) ≡ None → HasFlaw (IsFlaw Own before byte s)
  flaw_there None byte s none = own byte s none
  flaw_there (Some place) byte s none =
      by_test (goes_on_length byte) (λ h. (record { kind = BadLength; left = place }, refl)) (own byte s none)

  has_flaw : (s : List ℕ)
      → is_done (walk at s) ≡ false → (before : Option ℕ) → HasFlaw (Flawed I Stands lengthy Own before s)
  has_flaw =
      by_parts r
      (λ s. is_done (walk at s) ≡ false → (before : Option ℕ) → HasFlaw (Flawed I Stands lengthy Own before s)) stuck
      goes_on
    where
      stuck : (s : List ℕ) → at s ≡ None → is_done (walk at s) ≡ false → (before : Option ℕ)
          → HasFlaw (Flawed I Stands lengthy Own before s)
      stuck [] none left before = absurd (let done = ap is_done (walk-none r [] none) in cc)
      stuck (byte ∷ s) none left before =
          let flaw = flaw_there before byte s none in
          (flaw.0, stuck_here before byte s flaw.0 (none_of r (byte ∷ s) none) flaw.1)

      goes_on : (s : List ℕ) (z : I × List ℕ)
          → at s ≡ Some z
          → (is_done (walk at z.1) ≡ false → (before : Option ℕ) → HasFlaw (Flawed I Stands lengthy Own before z.1))
          → is_done (walk at s) ≡ false → (before : Option ℕ)
          → HasFlaw (Flawed I Stands lengthy Own before s)
      goes_on s z some next left before =
          let flaw = next (sym (ap is_done (walk-some r s z some)) ∙ left) (length_at_place (lengthy z.0) (length s)) in
          (flaw.0, stuck_later before s z.0 z.1 flaw.0 (longest_of r s z some) flaw.1)

-- the fault of a chord
chord_by : (bang : Bool) (s : List ℕ)
    → chord_at bang s ≡ None → (ends done headless : Bool) → (length (span_all is_inside s).1 == 0) ≡ ends
    → is_done (walk (inner_at bang) s) ≡ done → begins is_bracket (walk (inner_at bang) s).1 ≡ headless
    → HasFlaw (ChordFault bang s)
chord_by bang s none true done headless e f g = (
  record { kind = Unclosed; left = length s + 1 },
  chord-unclosed bang s (span_all is_inside s).0 (span_all is_inside s).1 refl
      (eqb-true (length (span_all is_inside s).1) 0 e),
)
chord_by bang s none false true headless e f g = (record { kind = Unclosed; left = length s + 1 }, chord-open bang s f)
chord_by bang s none false false true e f g =
    (record { kind = BadByte; left = length s + 1 }, chord-headless bang s none g)
chord_by bang s none false false false e f g =
    let flaw = has_flaw (inner_reader bang) has_length IsBadByte (λ byte t h. here BadByte (byte ∷ t)) s f None in (
      flaw.0,
      chord-flawed bang s (span_all is_inside s).0 (span_all is_inside s).1 flaw.0 refl
          (eqb-false (length (span_all is_inside s).1) 0 e) f g flaw.1,
    )

chord_flaw : (bang : Bool) (s : List ℕ) → chord_at bang s ≡ None → HasFlaw (ChordFault bang s)
chord_flaw bang s none =
    chord_by bang s none (length (span_all is_inside s).1 == 0) (is_done (walk (inner_at bang) s))
    (begins is_bracket (walk (inner_at bang) s).1) refl refl refl

-- the fault of a grace group
grace_own : (bang : Bool) (byte : ℕ) (s : List ℕ)
    → grace_part_at bang (byte ∷ s) ≡ None → HasFlaw (IsGraceOwn bang (byte ∷ s))
grace_own bang byte s none =
    by_test (byte == 91)
    (λ e. chord_flaw bang s (no_chord_in_grace bang (byte ∷ s) s byte refl (eqb-true byte 91 e) none))
    (here BadByte (byte ∷ s))

grace_by : (bang : Bool) (s : List ℕ)
    → grace_at bang s ≡ None → (ends done : Bool) → (length (span_all is_in_grace s).1 == 0) ≡ ends
    → is_done (walk (grace_part_at bang) (skip 47 s).1) ≡ done
    → HasFlaw (GraceFault bang s)
grace_by bang s none true done e f = (
  record { kind = Unclosed; left = length s + 1 },
  grace-unclosed bang s (span_all is_in_grace s).0 (span_all is_in_grace s).1 refl
      (eqb-true (length (span_all is_in_grace s).1) 0 e),
)
grace_by bang s none false true e f =
    (record { kind = Unclosed; left = length s + 1 }, grace-open bang (skip 47 s).0 s (skip 47 s).1 refl f)
grace_by bang s none false false e f =
    let flaw = has_flaw (part_reader bang) part_has_length (IsGraceOwn bang) (grace_own bang) (skip 47 s).1 f None in (
      flaw.0,
      grace-flawed bang (skip 47 s).0 s (skip 47 s).1 (span_all is_in_grace s).0 (span_all is_in_grace s).1 flaw.0 refl
          refl (eqb-false (length (span_all is_in_grace s).1) 0 e) none f flaw.1,
    )

grace_flaw : (bang : Bool) (s : List ℕ) → grace_at bang s ≡ None → HasFlaw (GraceFault bang s)
grace_flaw bang s none =
    grace_by bang s none (length (span_all is_in_grace s).1 == 0) (is_done (walk (grace_part_at bang) (skip 47 s).1))
    refl refl

-- the fault of a line
bracket_flaw : (bang : Bool) (byte : ℕ) (s : List ℕ) (o : BracketOpening)
    → (o ≡ BracketOpening.Chord → HasFlaw (ChordFault bang s)) → HasFlaw (IsBracketFlaw o bang byte s)
bracket_flaw bang byte s BracketOpening.Bar chord = here BadByte (byte ∷ s)
bracket_flaw bang byte s BracketOpening.Ending chord = here BadByte (byte ∷ s)
bracket_flaw bang byte s BracketOpening.Inline chord = here Unclosed (byte ∷ s)
bracket_flaw bang byte s BracketOpening.Chord chord = chord refl

own_flaw : (bang : Bool) (before : PieceBefore) (byte : ℕ) (s : List ℕ)
    → piece_at bang before (byte ∷ s) ≡ None → HasFlaw (IsOwnFlaw bang byte s)
own_flaw bang before byte s none =
    by_test (byte == 34) (λ e. here Unclosed (byte ∷ s))
    (by_test (byte == 91) (λ e.
    bracket_flaw bang byte s (opening s)
    (λ o. chord_flaw bang s (no_chord bang before byte s (eqb-true byte 91 e) none o)))
    (by_test (byte == 123) (λ e. grace_flaw bang s (no_grace bang before byte s (eqb-true byte 123 e) none))
    (here BadByte (byte ∷ s))))

line_flaw : (at : ℕ) (Own : Flaw → Type 0) (kind : Option FaultKind)
    → HasFlaw Own → HasFlaw (λ flaw. MatchOption kind (Own flaw) (λ kind. flaw ≡ record { kind = kind; left = at }))
line_flaw at Own None own = own
line_flaw at Own (Some kind) own = (record { kind = kind; left = at }, refl)

-- what a line gives from a position on
abbrev HasPrefix : Bool → ℕ → PieceBefore → ℕ → List ℕ → Type 0
HasPrefix bang n before at s = (ts : List Placed) × (end : Option Flaw) × GivesTokens bang n before at s ts end

pub has_prefix : (bang : Bool) (n : ℕ) (before : PieceBefore) (at : ℕ) (s : List ℕ) → HasPrefix bang n before at s
has_prefix bang n before at s = within (length s) before at s (omega arith) where
  read_on : (before : PieceBefore) (at : ℕ) (s : List ℕ) (o : FormAndRest)
      → piece_at bang before s ≡ o
      → ((next : PieceBefore) (rest : List ℕ) → length rest < length s → HasPrefix bang n next (length s) rest)
      → HasPrefix bang n before at s
  read_on before at [] o e next = ([], None, clear before at)
  read_on before at (byte ∷ s) None e next =
      let flaw = line_flaw at (IsOwnFlaw bang byte s) (kind_after before byte) (own_flaw bang before byte s e) in
      ([], Some flaw.0, breaks before at byte s flaw.0 (none_of (piece_reader bang before) (byte ∷ s) e) flaw.1)
  read_on before at (byte ∷ s) (Some z) e next =
      let more = next (after z.0) z.1 (less (piece_reader bang before) (byte ∷ s) z e) in
      let all : List Placed = with_token (token_meant z.0) (column n (length (byte ∷ s))) more.0 in (
        all,
        more.1,
        leads before at (byte ∷ s) z.0 z.1 more.0 all more.1 (longest_of (piece_reader bang before) (byte ∷ s) z e)
            more.2 refl,
      )

  within : (m : ℕ) (before : PieceBefore) (at : ℕ) (s : List ℕ) → length s ≤ m → HasPrefix bang n before at s
  within zero before at s h =
      read_on before at s (piece_at bang before s) refl (λ next rest lt. absurd (omega (arith, lt, h)))
  within (suc m) before at s h =
      read_on before at s (piece_at bang before s) refl
      (λ next rest lt. within m next (length s) rest (omega (arith, lt, h)))

pub prefix_from : (bang : Bool) (line : Line) (place : TokenCursor)
    → (more : List Placed) × (fault : Option Fault) × GivesTokensFrom bang line place more fault
prefix_from bang line place =
    let f = has_prefix bang (length line.text) place.before place.at place.rest.now in
    (f.0, option_map (fault_at line) f.1, (f.1, f.2, refl))

-- a part is followed by some more tokens, with which the line is read up to its first fault
pub after_part : (bang : Bool) (line : Line) (place : TokenCursor) (ts : List Placed) (following : LineRest)
    → PartOf bang line place ts following
    → (more : List Placed) × (fault : Option Fault) × GivesTokensFrom bang line place (ts ++ more) fault
after_part bang line place ts (LineRest.More next) part =
    let f = prefix_from bang line next in (f.0, f.1, part.0 f.0 f.1 f.2)
after_part bang line place ts (LineRest.End fault) part =
    ([], fault, subst (λ us. GivesTokensFrom bang line place us fault) (sym (append-nil ts)) part)

good_before : (ts more : List Placed) → AreGoodTokens (ts ++ more) → AreGoodTokens ts
good_before [] more good = tt
good_before (t ∷ ts) more good = (good.0, good_before ts more good.1)

pub good_part : (bang : Bool) (line : Line) (place : TokenCursor) (ts : List Placed) (following : LineRest)
    → PartOf bang line place ts following → AreGoodTokens ts
good_part bang line place ts following part =
    let all = after_part bang line place ts following part in
    good_before ts all.0
    (good_prefix bang (length line.text) place.before place.at place.rest.now (ts ++ all.0) all.2.0 all.2.1)
