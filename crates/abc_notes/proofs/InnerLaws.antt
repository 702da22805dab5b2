-- The inside of a chord as the loops read it.
use Rattle.std.proofs.Common.{◌≡◌, ℕ, zero, suc, ◌+◌, ◌≤◌, ◌<◌, Bool, true, false, List, [], ◌∷◌, ◌++◌, length, Option}
use Rattle.std.proofs.Common.{Some, None, refl, sym, ap}
use Rattle.std.proofs.Common.{◌∙◌, arith, append_assoc, append-nil, ◌||◌, option_map, MatchBool, length-append}
use Rattle.std.proofs.lemmas.Bool.{cond_both, ne_eqb}
use Rattle.std.proofs.{lemmas.List.nil_from_length, Math.Bool.{or-false, or_assoc}}
use Rattle.abc_notes.specs.Items.{Inner, note_inside, named_inside, tie_inside, inner_then, StandsInside, Sense}
use Rattle.abc_notes.specs.Items.{says_note, says_tie, sense, is_inner_note}
use Rattle.abc_notes.specs.Items.{has_length, IsBadByte, InnerFlawed, inner_at, sensed, inner_flaw}
use Rattle.abc_notes.specs.Graces.{heads_in, plain_head}
use Rattle.abc_notes.specs.declared.part.Flaw.{Flaw}
use Rattle.abc_notes.specs.declared.part.Len.{Len}
use Rattle.abc_notes.specs.Runs.{copies, maybe}
use Rattle.abc_notes.specs.Lengths.{LengthForm, whole, over, halved}
use Rattle.abc_notes.specs.Lengths.{length_then}
use Rattle.abc_notes.specs.Notes.{NoteForm, note_then, sign_then, letter_byte}
use Rattle.abc_notes.specs.Parts.{stuck_here, stuck_later, IsFlaw, walk}
use Rattle.abc_notes.specs.Parts.{is_done, goes_on_length, length_at_place}
use Rattle.abc_notes.specs.Chords.{has_inner_head, is_tied, tied_if, heads_of, senses, last_head}
use Rattle.abc_notes.specs.Chords.{given_head, next_last, heads_after, at_most}
use Rattle.abc_notes.proofs.ItemLaws.{inner_at-takes, inner_at-reaches}
use Rattle.abc_notes.proofs.PartLaws.{Reader, less, longest_of, none_of, walk-none, walk-some}
use Rattle.abc_notes.proofs.PartLaws.{left_none, left_some, read_from, none_from}
use Rattle.{mus_units.specs.declared.note.Head.Head, mus_units.specs.declared.pitch.Alter.Alter}
use Rattle.mus_units.specs.declared.pitch.Alter.TheVariants.{Sharp2}
use Rattle.abc_lines.specs.declared.fault.FaultKind.TheVariants.{BadByte, BadLength}

-- ---- a part has a byte
pub length-copies_then : (n b : ℕ) (x : List ℕ) → length (copies n b x) ≡ n + length x
length-copies_then zero b x = omega arith
length-copies_then (suc n) b x = omega (arith, length-copies_then n b x)

pub length-maybe : (d : Bool) (b : ℕ) (x : List ℕ) → length x ≤ length (maybe d b x)
length-maybe true b x = omega arith
length-maybe false b x = omega arith

pub length-length_then : (len : LengthForm) (x : List ℕ) → length x ≤ length (length_then len x)
length-length_then (whole count) x = omega (arith, length-append count x)
length-length_then (over count below) x = omega (arith, length-append count (47 ∷ (below ++ x)), length-append below x)
length-length_then (halved count k) x = omega (arith, length-append count (copies k 47 x), length-copies_then k 47 x)

pub length-sign_then : (sign : Option Alter) (x : List ℕ) → length x ≤ length (sign_then sign x)
length-sign_then (Some Sharp2) x = omega arith
length-sign_then _ x = omega arith

pub note-longer : (f : NoteForm) (x : List ℕ) → length x < length (note_then f x)
note-longer f x =
    let y = length_then f.length x in let following = letter_byte f.low f.letter ∷ (f.marks ++ y) in
    omega (arith, length-sign_then f.sign following, length-append f.marks y, length-length_then f.length x)

pub inner-longer : (f : Inner) (x : List ℕ) → length x < length (inner_then f x)
inner-longer (note_inside f) x = note-longer f x
inner-longer (named_inside name) x = omega (arith, length-append name (33 ∷ x))
inner-longer (tie_inside d) x = omega (arith, length-maybe d 46 (45 ∷ x))
inner-longer _ x = omega arith

abbrev pub inner_pair : Inner → List ℕ → Inner × List ℕ
inner_pair f x = (f, x)

-- a head that a tie may still reach is tied if one does
heads-following : (head : Head) (len : Len) (t : Bool) (more : List Sense) →
    heads_after (Some (tied_if t head, len)) more ≡ (tied_if (t || is_tied more) head, len) ∷ heads_of more
heads-following head len true [] = refl
heads-following head len false [] = refl
heads-following head len true (says_note other l ∷ more) =
    ap (λ hs. (tied_if true head, len) ∷ hs) (heads-following other l false more)
heads-following head len false (says_note other l ∷ more) =
    ap (λ hs. (tied_if false head, len) ∷ hs) (heads-following other l false more)
heads-following head len true (says_tie ∷ more) = heads-following head len true more
heads-following head len false (says_tie ∷ more) = heads-following head len true more
heads-following head len t (_ ∷ more) = heads-following head len t more

pub heads-are : (more : List Sense) → heads_after None more ≡ heads_of more
heads-are [] = refl
heads-are (says_note head len ∷ more) = heads-following head len false more
heads-are (_ ∷ more) = heads-are more

pub heads_in-cons : (item : Sense) (more : List Sense) → heads_in (item ∷ more) ≡ plain_head item ++ heads_in more
heads_in-cons (says_note head len) more = refl
heads_in-cons _ more = refl

pub place_small : (b : Bool) (n here : ℕ) → here ≤ n → at_most n (length_at_place b here)
place_small true n here h = h
place_small false n here h = tt

flaw_here : (before : Option ℕ) (byte : ℕ) (rest : List ℕ)
    → IsFlaw IsBadByte before byte rest (inner_flaw before byte (suc (length rest)))
flaw_here None byte rest = refl
flaw_here (Some at) byte rest =
    cond_both {A = Flaw} (goes_on_length byte) (record { kind = BadLength; left = at })
    (record { kind = BadByte; left = suc (length rest) })
    (λ f. MatchBool (goes_on_length byte) (f ≡ record { kind = BadLength; left = at }) (IsBadByte (byte ∷ rest) f))
    (λ e. rw e refl) (λ e. rw e refl)

flaw_small : (before : Option ℕ) (byte here n : ℕ)
    → at_most n before → here ≤ n → (inner_flaw before byte here).left ≤ n
flaw_small None byte here n small h = h
flaw_small (Some at) byte here n small h =
    cond_both (goes_on_length byte) _ _ (λ (f : Flaw). f.left ≤ n) (λ e. small) (λ e. h)

module _ (bang : Bool) where
  pub inner_reader : Reader Inner (StandsInside bang) (inner_at bang)
  inner_reader = record {
    takes = inner_at-takes bang;
    reaches = λ f s x stands. rw stands.cut (inner_at-reaches bang f x stands.good);
    longer = λ f s x stands. rw stands.cut (inner-longer f x);
  }

  -- ---- what the result of a reader's call states
  abbrev given : Inner × List ℕ → Sense × List ℕ
  given z = sensed (sense z.0) z.1

  pub record FoundInner (s : List ℕ) (item : Sense) (following : List ℕ) : Type 0 where
    pub part : Inner
    pub at : inner_at bang s ≡ Some (inner_pair part following)
    pub says : item ≡ sense part

  pub found_inner : (s : List ℕ) {item : Sense} {following : List ℕ}
      → Some (sensed item following) ≡ option_map given (inner_at bang s)
      → FoundInner s item following
  found_inner s h =
      let o = read_from given (inner_at bang s) _ h in
      record {
        part = o.0.0;
        at = o.1 ∙ ap (λ x. Some (inner_pair o.0.0 x)) (sym (ap (λ p. p.1) o.2));
        says = ap (λ p. p.0) o.2;
      }

  pub none_inner : (s : List ℕ) → None ≡ option_map given (inner_at bang s) → inner_at bang s ≡ None
  none_inner s h = none_from given (inner_at bang s) h

  -- ---- the state of a loop over the inside
  pub record Inside (w : List ℕ) (head : Bool) (before : Option ℕ) (rest : List ℕ) : Type 0 where
    pub left : (walk (inner_at bang) rest).1 ≡ (walk (inner_at bang) w).1
    pub heads : (head || has_inner_head (walk (inner_at bang) rest).0) ≡ has_inner_head (walk (inner_at bang) w).0
    pub flaw : (f : Flaw) → InnerFlawed bang before rest f → InnerFlawed bang None w f
    pub within : length rest ≤ length w
    pub small : at_most (length w) before

  module _ {s : List ℕ} {item : Sense} {following : List ℕ} (f : FoundInner s item following) where
    pub inner_less : length following < length s
    inner_less = less inner_reader s (f.part, following) f.at

    pub inside-next : {w : List ℕ} {head new note : Bool} {before place : Option ℕ}
        → Inside w head before s → note ≡ is_inner_note item
        → new ≡ (head || note) → place ≡ length_at_place note (length s) → Inside w new place following
    inside-next {w} {head} {new} {note} {before} stage noted newly placed =
        let step = walk-some inner_reader s (f.part, following) f.at in
        let is : note ≡ has_length f.part = noted ∙ ap is_inner_note f.says in
        let later = λ (flaw : Flaw) (h : InnerFlawed bang (length_at_place note (length s)) following flaw).
        stuck_later before s f.part following flaw (longest_of inner_reader s (f.part, following) f.at) (rw is at h) in
        rw (placed, newly) (record {
          left = sym (left_some inner_reader s (f.part, following) f.at) ∙ stage.left;
          heads =
              or_assoc head note _
              ∙ rw is (sym (ap (λ (z : List Inner × List ℕ). head || has_inner_head z.0) step))
              ∙ stage.heads;
          flaw = λ flaw h. stage.flaw flaw (later flaw h);
          within = omega (arith, stage.within, inner_less);
          small = place_small note (length w) (length s) stage.within;
        })

    -- ---- the meaning of the inside
    pub senses-some : senses bang s ≡ item ∷ senses bang following
    senses-some = rw (walk-some inner_reader s (f.part, following) f.at, f.says) refl

    pub heads-next : (out : List (Head × Len)) (last : Option (Head × Len)) {new total : List (Head × Len)}
        {next : Option (Head × Len)}
        → new ≡ out ++ given_head last item → next ≡ next_last last item
        → out ++ heads_after last (senses bang s) ≡ total
        → new ++ heads_after next (senses bang following) ≡ total
    heads-next out last push is so_far = rw (push, is, append_assoc) (rw senses-some at so_far)

    -- parts that each add what they mean
    pub said-next : {X : Type 0} (gives : List Sense → List X) (one : Sense → List X) →
        ((item : Sense) (more : List Sense) → gives (item ∷ more) ≡ one item ++ gives more)
        → (out : List X) {new total : List X}
        → new ≡ out ++ one item → out ++ gives (senses bang s) ≡ total → new ++ gives (senses bang following) ≡ total
    said-next gives one cons out push so_far =
        rw (push, append_assoc) (rw (senses-some, cons item (senses bang following)) at so_far)

  pub senses-none : (s : List ℕ) → inner_at bang s ≡ None → senses bang s ≡ []
  senses-none s none = rw (walk-none inner_reader s none) refl

  pub heads-end : (out : List (Head × Len)) (last : Option (Head × Len)) (s : List ℕ) {new total : List (Head × Len)}
      → inner_at bang s ≡ None
      → new ≡ out ++ last_head last → out ++ heads_after last (senses bang s) ≡ total → new ≡ total
  heads-end out last s none push so_far = push ∙ (rw (senses-none s none) at so_far)

  pub said-end : {X : Type 0} (gives : List Sense → List X)
      → gives [] ≡ [] → {out total : List X} (s : List ℕ) → inner_at bang s ≡ None
      → out ++ gives (senses bang s) ≡ total → out ≡ total
  said-end gives nothing s none so_far = rw (senses-none s none, nothing, append-nil) at so_far

  module _ {w : List ℕ} {head : Bool} {before : Option ℕ} {rest : List ℕ} (stage : Inside w head before rest) where
    pub inside-stuck : {byte here : ℕ} {t : List ℕ} {flaw : Flaw}
        → rest ≡ byte ∷ t → here ≡ length rest → inner_at bang rest ≡ None
        → flaw ≡ inner_flaw before byte here →
        (is_done (walk (inner_at bang) w) ≡ false) × InnerFlawed bang None w flaw × (flaw.left ≤ length w)
    inside-stuck {byte} {here} {t} {flaw} cut place none is =
        let none_here = none_of inner_reader (byte ∷ t) (ap (inner_at bang) (sym cut) ∙ none) in
        let stuck : InnerFlawed bang before (byte ∷ t) flaw =
        stuck_here before byte t flaw none_here (rw (is, place, cut) (flaw_here before byte t)) in (
          rw (sym stage.left, left_none inner_reader rest none, cut) (ne_eqb (suc (length t)) 0 (omega arith)),
          stage.flaw flaw (rw cut stuck),
          rw is (flaw_small before byte here (length w) stage.small (omega (arith, place, stage.within))),
        )

    pub inside-ends : length rest ≡ 0
        → (is_done (walk (inner_at bang) w) ≡ true) × (head ≡ has_inner_head (walk (inner_at bang) w).0)
    unfolding walk
    inside-ends none =
        let empty = nil_from_length rest none in (
          rw (sym stage.left, empty) refl,
          sym (or-false head) ∙ sym (ap (λ x. head || has_inner_head (walk (inner_at bang) x).0) empty) ∙ stage.heads,
        )
