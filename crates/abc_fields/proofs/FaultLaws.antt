-- The fault found line by line, with the ids of voices carried along, is the first fault.
use Rattle.std.proofs.Common.{◌≡◌, refl, sym, ap, ◌∙◌, subst, ℕ, ◌<◌, List, [], ◌∷◌, ◌++◌, true, length, append_assoc}
use Rattle.std.proofs.Common.{inl, inr}
use Rattle.std.proofs.lemmas.{Bool.{cond_both, ltb-true, lt-ltb}, List.{append-nil, Sums.fold-append}}
use Rattle.std.proofs.lemmas.Option.{MatchOption-at_some, MatchOption-at_none, none-some}
use Rattle.std.specs.Prelude.{nat_lt, fold, Option, Some, None, MatchOption, Result, Ok, Err, IfSome}
use Rattle.std.specs.Option.{option_or}
use Rattle.abc_lines.specs.declared.book.Line.{Line}
use Rattle.abc_lines.specs.declared.book.TuneText.{TuneText}
use Rattle.abc_lines.specs.declared.fault.FaultKind.{FaultKind}
use Rattle.abc_lines.specs.declared.fault.Fault.{Fault}
use Rattle.abc_lines.specs.declared.fault.TuneError.{TuneError}
use Rattle.abc_field.specs.declared.field.Field.{Field}
use Rattle.abc_field.specs.Fields.{field_of}
use Rattle.abc_field.proofs.FieldForms.{line-says, line-read, line-bad, line-refused}
use Rattle.abc_field.proofs.ReadLaws.{option_case, some_holds}
use Rattle.abc_fields.specs.HeaderFaults.{IsFaultAfter, IsFaultBy, IsFaultOfHeader, IsClearBy, IsClearHeader}
use Rattle.abc_fields.specs.HeaderFaults.{IsHeaderRefusal}
use Rattle.abc_fields.specs.Headers.{key_place, put_field, fields_of, field_fault, ids_with, first_fault, head_lines}
use Rattle.abc_fields.specs.Headers.{fault_by}
use Rattle.abc_fields.specs.{Headers.{header_fault, IsHeaderFault}, Voicing.{ids_after, ids_of}}

-- The ids after some lines, and after one more line.
ids-put : (ids : List (List ℕ)) (read : Result Field FaultKind) (fs : List Field)
    → fold ids_after ids (put_field read fs) ≡ fold ids_after (ids_with ids read) fs
ids-put ids (Ok f) fs = refl
ids-put ids (Err kind) fs = refl

ids-push : (ids : List (List ℕ)) (lines : List Line) (line : Line)
    → fold ids_after ids (fields_of (lines ++ line ∷ []))
    ≡ ids_with (fold ids_after ids (fields_of lines)) (field_of line.text)
ids-push ids [] line = ids-put ids (field_of line.text) []
ids-push ids (first ∷ lines) line =
    let read = field_of first.text in
    ids-put ids read (fields_of (lines ++ line ∷ [])) ∙ ids-push (ids_with ids read) lines line
    ∙ ap (λ known. ids_with known (field_of line.text)) (sym (ids-put ids read (fields_of lines)))

-- A line's fault, by the result of reading it.
abbrev fault_of_line : List Line → Line → Option Fault
fault_of_line before line = field_fault (ids_of (fields_of before)) line (field_of line.text)

fault-is : (before : List Line) (line : Line) → IfSome (fault_of_line before line) (IsFaultAfter before line)
fault-is before line = by_reading (field_of line.text) refl
  where
    by_reading : (read : Result Field FaultKind) → field_of line.text ≡ read
        → IfSome (field_fault (ids_of (fields_of before)) line read) (IsFaultAfter before line)
    by_reading (Err kind) e = inl (record { kind = kind; bad = line-bad line.text kind e; is = refl })
    by_reading (Ok f) e =
        cond_both (nat_lt 16 (length (ids_after (ids_of (fields_of before)) f))) _ _
        (λ o. IfSome o (IsFaultAfter before line))
        (λ many. inr (record {
          field = f;
          says = line-says line.text f e;
          many =
              subst (λ ids. 16 < length ids) (sym (fold-append ids_after [] (fields_of before) (f ∷ [])))
              (ltb-true 16 _ many);
          is = refl;
        }))
        (λ few. tt)

fault-reaches : (before : List Line) (line : Line) (fault : Fault)
    → IsFaultAfter before line fault → fault_of_line before line ≡ Some fault
fault-reaches before line fault (inl bad) = rw (line-refused line.text bad.kind bad.bad) (ap Some bad.is)
fault-reaches before line fault (inr voice) =
    let more =
    subst (λ ids. 16 < length ids) (fold-append ids_after [] (fields_of before) (voice.field ∷ [])) voice.many in
    let many : nat_lt 16 (length (ids_after (ids_of (fields_of before)) voice.field)) ≡ true = lt-ltb 16 _ more in
    rw (line-read line.text voice.field voice.says, many) (ap Some voice.is)

-- The same after lines that were already passed.
abbrev ClearAfter : List Line → List Line → Type 0
ClearAfter done lines =
    (before : List Line) (line : Line) (after : List Line) (fault : Fault) → lines ≡ before ++ line ∷ after
    → IsFaultAfter (done ++ before) line fault → ⊥

record FirstAfter (done lines : List Line) (fault : Fault) : Type 0 where
  before : List Line
  line : Line
  after : List Line
  cut : lines ≡ before ++ line ∷ after
  is : IsFaultAfter (done ++ before) line fault
  clear : ClearAfter done before

nothing_clear : (done : List Line) → ClearAfter done []
nothing_clear done [] line after fault e is = cc
nothing_clear done (first ∷ before) line after fault e is = cc

module _ (done : List Line) (line : Line) (none : fault_of_line done line ≡ None) where
  one_clear : (lines : List Line) → ClearAfter (done ++ line ∷ []) lines → ClearAfter done (line ∷ lines)
  one_clear lines clear [] other after fault e is =
      let same : other ≡ line = cc in
      let here =
      subst (λ l. IsFaultAfter done l fault) same (subst (λ ls. IsFaultAfter ls other fault) (append-nil done) is) in
      none-some fault (sym none ∙ fault-reaches done line fault here)
  one_clear lines clear (first ∷ before) other after fault e is =
      let same : first ≡ line = cc in
      let rest : lines ≡ before ++ other ∷ after = cc in
      let passed = ap (λ l. done ++ l ∷ before) same ∙ sym (append_assoc done (line ∷ []) before) in
      clear before other after fault rest (subst (λ ls. IsFaultAfter ls other fault) passed is)

  later : (lines : List Line) (o : Option Fault)
      → MatchOption o (ClearAfter (done ++ line ∷ []) lines) (FirstAfter (done ++ line ∷ []) lines)
      → MatchOption o (ClearAfter done (line ∷ lines)) (FirstAfter done (line ∷ lines))
  later lines None clear = one_clear lines clear
  later lines (Some fault) first =
      record {
        before = line ∷ first.before;
        line = first.line;
        after = first.after;
        cut = ap (λ ls. line ∷ ls) first.cut;
        is = subst (λ ls. IsFaultAfter ls first.line fault) (append_assoc done (line ∷ []) first.before) first.is;
        clear = one_clear first.before first.clear;
      }

found : (lines done : List Line)
    → MatchOption (first_fault (ids_of (fields_of done)) lines) (ClearAfter done lines) (FirstAfter done lines)
found [] done = nothing_clear done
found (line ∷ lines) done =
    let passed : List Line = done ++ line ∷ [] in
    let ids : List (List ℕ) = ids_with (ids_of (fields_of done)) (field_of line.text) in
    option_case (λ o.
    MatchOption (option_or o (first_fault ids lines)) (ClearAfter done (line ∷ lines))
    (FirstAfter done (line ∷ lines)))
    (fault_of_line done line)
    (λ fault e. record {
      before = [];
      line = line;
      after = lines;
      cut = refl;
      is =
          subst (λ ls. IsFaultAfter ls line fault) (sym (append-nil done))
          (some_holds (IsFaultAfter done line) e (fault-is done line));
      clear = nothing_clear done;
    })
    (λ none. later done line none lines (first_fault ids lines) (rw (← ids-push [] done line) (found lines passed)))

-- The fault of a header is the first fault of its lines.
by-place : (tune : TuneText) (place : Option ℕ)
    → MatchOption (fault_by tune place) (IsClearBy tune place) (IsFaultBy tune place)
by-place tune None = refl
by-place tune (Some place) = whole (first_fault [] (head_lines tune place)) (found (head_lines tune place) [])
  where
    whole : (o : Option Fault)
        → MatchOption o (ClearAfter [] (head_lines tune place)) (FirstAfter [] (head_lines tune place))
        → MatchOption o (IsClearBy tune (Some place)) (IsFaultBy tune (Some place))
    whole None clear = clear
    whole (Some fault) first =
        record {
          before = first.before;
          line = first.line;
          after = first.after;
          cut = first.cut;
          is = first.is;
          clear = first.clear;
        }

-- a first fault of lines that follow others is found
reaches : (before done : List Line) (line : Line) (after : List Line) (fault : Fault)
    → IsFaultAfter (done ++ before) line fault → ClearAfter done before
    → first_fault (ids_of (fields_of done)) (before ++ line ∷ after) ≡ Some fault
reaches [] done line after fault is clear =
    let ids = ids_with (ids_of (fields_of done)) (field_of line.text) in
    ap (λ o. option_or o (first_fault ids after))
    (fault-reaches done line fault (subst (λ ls. IsFaultAfter ls line fault) (append-nil done) is))
reaches (first ∷ before) done line after fault is clear =
    let ids = ids_with (ids_of (fields_of done)) (field_of first.text) in
    let none : fault_of_line done first ≡ None = option_case (λ o. o ≡ None) (fault_of_line done first)
    (λ g e. absurd (clear [] first before g refl
    (subst (λ ls. IsFaultAfter ls first g) (sym (append-nil done))
    (some_holds (IsFaultAfter done first) e (fault-is done first)))))
    (λ _. refl) in
    let later = reaches before (done ++ first ∷ []) line after fault
    (subst (λ ls. IsFaultAfter ls line fault) (sym (append_assoc done (first ∷ []) before)) is)
    (λ b l a g cut x.
    clear (first ∷ b) l a g (ap (λ ls. first ∷ ls) cut)
    (subst (λ ls. IsFaultAfter ls l g) (append_assoc done (first ∷ []) b) x)) in
    ap (λ o. option_or o (first_fault ids (before ++ line ∷ after))) none
    ∙ ap (λ known. first_fault known (before ++ line ∷ after)) (sym (ids-push [] done first))
    ∙ later

none_by : (tune : TuneText) (place : Option ℕ) → IsClearBy tune place → fault_by tune place ≡ None
none_by tune None clear = absurd clear
none_by tune (Some place) clear =
    option_case (λ o. o ≡ None) (fault_by tune (Some place))
    (λ g e.
    let first =
    MatchOption-at_some (IsClearBy tune (Some place)) (IsFaultBy tune (Some place)) g e (by-place tune (Some place)) in
    absurd (clear first.before first.line first.after g first.cut first.is))
    (λ _. refl)

first_by : (tune : TuneText) (place : Option ℕ) (fault : Fault)
    → IsFaultBy tune place fault → fault_by tune place ≡ Some fault
first_by tune None fault is = ap Some is
first_by tune (Some place) fault first =
    ap (first_fault []) first.cut ∙ reaches first.before [] first.line first.after fault first.is first.clear

-- and a header that has no fault, or that fault, is read so
pub header-none : (tune : TuneText) → IsClearHeader tune → header_fault tune ≡ None
unfolding header_fault
header-none tune clear = none_by tune (key_place tune.lines) clear

pub header-first : (tune : TuneText) (fault : Fault) → IsFaultOfHeader tune fault → header_fault tune ≡ Some fault
unfolding header_fault
header-first tune fault is = first_by tune (key_place tune.lines) fault is

pub header-clear : (tune : TuneText) → header_fault tune ≡ None → IsClearHeader tune
unfolding header_fault
header-clear tune h =
    MatchOption-at_none (IsClearHeader tune) (IsFaultOfHeader tune) h (by-place tune (key_place tune.lines))

pub header-first-is : (tune : TuneText) (fault : Fault) → header_fault tune ≡ Some fault → IsFaultOfHeader tune fault
unfolding header_fault
header-first-is tune fault h =
    MatchOption-at_some (IsClearHeader tune) (IsFaultOfHeader tune) fault h (by-place tune (key_place tune.lines))

pub header-refusal : (tune : TuneText) (e : TuneError) → IsHeaderFault tune e → IsHeaderRefusal tune e
header-refusal tune TuneError.Memory h = tt
header-refusal tune (TuneError.Fault fault) h = header-first-is tune fault h
