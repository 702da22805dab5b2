-- Reading a part of a grace group, or a group, gives the longest one; if there is none, its fault is found.
use Rattle.std.proofs.Common.{◌≡◌, ℕ, zero, suc, ◌+◌, ◌-◌, ◌≤◌, ◌<◌, Bool, true, false, eqb, List, [], ◌∷◌, ◌++◌}
use Rattle.std.proofs.Common.{length, take, drop, Option, Some}
use Rattle.std.proofs.Common.{None, refl, sym, ap, ◌∙◌, subst, arith, inl, inr, ◌⊎◌, append_assoc, append-nil, add-one}
use Rattle.std.proofs.Common.{not, ◌||◌, IfSome, option_map}
use Rattle.std.proofs.Common.{MatchOption}
use Rattle.std.proofs.lemmas.Bool.{both_ways, cond_both, and_parts, eqb-true, ne_eqb, cond-true, not-true}
use Rattle.std.proofs.lemmas.Bool.{not_from_false}
use Rattle.std.proofs.lemmas.Bool.{or_parts, cases_lt}
use Rattle.std.proofs.lemmas.List.{length-append, length-drop, take-append-drop, nil_from_length}
use Rattle.std.proofs.Math.Seq.{take-append_seam, drop-append_seam}
use Rattle.std.proofs.lemmas.Option.{same_Some, cond_some, some_pair_parts}
use Rattle.abc_notes.specs.Items.{Inner, lone_inside, inner_then, IsName, name_at, item_class, inner_at}
use Rattle.abc_notes.specs.Graces.{GracePart, single, chorded}
use Rattle.abc_notes.specs.Graces.{grace_part_then, IsGracePart, StandsInGrace, GraceParts, GraceLeads, part_has_length}
use Rattle.abc_notes.specs.Graces.{GraceForm, is_in_grace}
use Rattle.abc_notes.specs.Graces.{is_slash_byte, grace_then, IsGrace, body_of_part, GraceFlawed, HasSlash, GraceFault}
use Rattle.abc_notes.specs.Graces.{grace_unclosed, grace_open}
use Rattle.abc_notes.specs.Graces.{grace_flawed, chorded_read, single_read, grace_part_at, brace_here, brace_in}
use Rattle.abc_notes.specs.Graces.{brace_in_name, closes_at}
use Rattle.abc_notes.specs.Graces.{last_closing, brace_in_chord, brace_after, brace_in_part, brace_at, grace_from}
use Rattle.abc_notes.specs.Graces.{grace_at, bodied, body_inside}
use Rattle.abc_notes.specs.Graces.{inside_of_part, IsPartFlaw, item_within}
use Rattle.abc_notes.specs.Decorations.{is_name_byte}
use Rattle.abc_notes.specs.declared.part.Flaw.{Flaw}
use Rattle.abc_notes.specs.declared.part.GraceChord.{GraceChord}
use Rattle.abc_notes.specs.declared.part.GracePiece.{GracePiece}
use Rattle.abc_notes.specs.Runs.{maybe, skip, span_all, begins}
use Rattle.abc_notes.specs.Lengths.{LengthForm, length_then, length_from}
use Rattle.abc_notes.specs.Chords.{ChordForm, chord_then, IsChord, bracket_at, chord_at, at_most}
use Rattle.abc_notes.specs.Parts.{no_part, then_part, stuck_here, stuck_later, walk, is_done, length_at_place, later_or}
use Rattle.abc_notes.proofs.ChordLaws.{bracket_at-closes, chord_at-takes, chord_at-reaches, chord-reads, chord-longer}
use Rattle.abc_notes.proofs.ChordLaws.{has_lone, is_lone}
use Rattle.abc_notes.proofs.ChordLaws.{later_assoc, later_none, cut_off}
use Rattle.abc_notes.proofs.CutLaws.{two, none_left, some_left, first_close, length_past, moved}
use Rattle.abc_notes.proofs.CutLaws.{read_on, inner_local, inner_append, length_append, length_free, cut_cases}
use Rattle.abc_notes.proofs.CutLaws.{first_same, rest_same, Local}
use Rattle.abc_notes.proofs.CutLaws.{read_cut, joined_cut, leads_of_walk, wider, all_join, all_parts, clear_parts, free}
use Rattle.abc_notes.proofs.CutLaws.{inner_free, not_named}
use Rattle.abc_notes.proofs.CutLaws.{crossing, lone_at, cond_then, NameCut, name_upto-closes, name_upto-found}
use Rattle.abc_notes.proofs.PartLaws.{Reader, stands_at, stops_at, less}
use Rattle.abc_notes.proofs.PartLaws.{longest_of, longest_is, none_of, at_nil, walk-none, walk-some, left_none}
use Rattle.abc_notes.proofs.PartLaws.{left_some, by_parts, parts_of_walk}
use Rattle.abc_notes.proofs.PartLaws.{walk_of_parts, read_from, none_from, mapped_some}
use Rattle.abc_notes.proofs.RunLaws.{Lacks, skip_cases, skip-takes, skip-lacks}
use Rattle.abc_notes.proofs.LengthLaws.{length_at-takes}
use Rattle.abc_notes.proofs.ItemLaws.{name_at-takes, name_at-reads}
use Rattle.abc_notes.proofs.InnerLaws.{inner_reader, inner-longer, place_small}
use Rattle.abc_notes.proofs.InnerLaws.{length-maybe}
use Rattle.{std.specs.List.list_all, abc_lines.specs.declared.fault.FaultKind.TheVariants.Unclosed}

abbrev pub at_least : ℕ → Option ℕ → Type 0
at_least n None = Unit {0}
at_least n (Some at) = n ≤ at

abbrev part_with : GracePart → List ℕ → GracePart × List ℕ
part_with p x = (p, x)

in_grace_wide : (b : ℕ) → free b ≡ true → is_in_grace b ≡ true
in_grace_wide b h = (and_parts _ _ h).1

part_append : (p : GracePart) (v y : List ℕ) → grace_part_then p v ++ y ≡ grace_part_then p (v ++ y)
part_append (single f) v y = inner_append f v y
part_append (chorded f) v y = simp (append_assoc, length_append)

part-longer : (p : GracePart) (x : List ℕ) → length x < length (grace_part_then p x)
part-longer (single f) x = inner-longer f x
part-longer (chorded f) x = omega (arith, chord-longer f x)

pub grace-longer : (f : GraceForm) (x : List ℕ) → length x < length (grace_then f x)
grace-longer f x = omega (arith, length-maybe f.slash 47 (f.inside ++ (125 ∷ x)), length-append f.inside (125 ∷ x))

-- parts and chords that skip no exclamation mark
abbrev pub lone_part_is : GracePart → Bool
lone_part_is (single f) = is_lone f
lone_part_is (chorded f) = has_lone f.parts

abbrev pub has_lone_part : List GracePart → Bool
has_lone_part [] = false
has_lone_part (p ∷ more) = lone_part_is p || has_lone_part more

-- the text of a chord that is a part
pub item_wider : (part : GracePiece) (n m : ℕ) → item_within part n → n ≤ m → item_within part m
item_wider (GracePiece.Part part) n m h le = tt
item_wider (GracePiece.Chord inside) n m h le = omega (arith, h, le)

module _ (bang : Bool) where
  -- ---- parts
  part-takes : (s : List ℕ) → IfSome (grace_part_at bang s) (λ z. StandsInGrace bang z.0 s z.1)
  unfolding grace_part_at
  part-takes [] = tt
  part-takes (b ∷ s) =
      let P : GracePart × List ℕ → Type 0 = λ z. StandsInGrace bang z.0 (b ∷ s) z.1 in
      cond_both (eqb b 91) _ _ (λ (r : Option (GracePart × List ℕ)). IfSome r P)
      (λ e. mapped_some chorded_read (chord_at bang s) P (chord_at-takes bang s)
      (λ z t. record { good = t.0; cut = rw (eqb-true b 91 e) (ap (λ x. 91 ∷ x) t.1) }))
      (λ e.
      mapped_some single_read _ P ((inner_reader bang).takes (b ∷ s)) (λ z t. record { good = t.good; cut = t.cut }))

  pub at_bracket : (s : List ℕ) → grace_part_at bang (91 ∷ s) ≡ option_map chorded_read (chord_at bang s)
  unfolding grace_part_at
  at_bracket s = refl

  pub no_chord : (s rest : List ℕ) (b : ℕ)
      → s ≡ b ∷ rest → b ≡ 91 → grace_part_at bang s ≡ None → chord_at bang rest ≡ None
  no_chord s rest b cut is none =
      none_from chorded_read (chord_at bang rest)
      (sym none ∙ ap (grace_part_at bang) (cut ∙ ap (λ x. x ∷ rest) is) ∙ at_bracket rest)

  no_inner : (s : List ℕ) → inner_at bang (91 ∷ s) ≡ None
  unfolding inner_at item_class
  no_inner s = refl

  single_at : (s : List ℕ) (z : Inner × List ℕ) → inner_at bang s ≡ Some z → grace_part_at bang s ≡ Some (single_read z)
  unfolding grace_part_at
  single_at [] z e = absurd (let clash = sym (at_nil (inner_reader bang)) ∙ e in cc)
  single_at (b ∷ s) z e =
      cond_both (eqb b 91) _ _ (λ r. r ≡ Some (single_read z))
      (λ h. absurd (let clash = sym (no_inner s) ∙ ap (λ x. inner_at bang (x ∷ s)) (sym (eqb-true b 91 h)) ∙ e in cc))
      (λ h. ap (option_map single_read) e)

  part-reaches : (p : GracePart) (x : List ℕ) → IsGracePart bang p → let s = grace_part_then p x in
      (z : GracePart × List ℕ) × (grace_part_at bang s ≡ Some z) × ((length z.1 < length x) ⊎ (z ≡ (p, x)))
  part-reaches (single f) x good =
      let o = (inner_reader bang).reaches f (inner_then f x) x (record { good = good; cut = refl }) in (
        single_read o.0,
        single_at (inner_then f x) o.0 o.1,
        elim o.2 [ inl shorter ↦ inl shorter | inr same ↦ inr (ap single_read same) ],
      )
  part-reaches (chorded f) x good =
      let o = chord_at-reaches bang f x good in
      let at = at_bracket (chord_then f x) ∙ ap (option_map chorded_read) o.1 in
      (chorded_read o.0, at, elim o.2 [ inl shorter ↦ inl shorter | inr same ↦ inr (ap chorded_read same) ])

  pub part_reader : Reader GracePart (StandsInGrace bang) (grace_part_at bang)
  part_reader = record {
    takes = part-takes;
    reaches = λ p s x stands. rw stands.cut (part-reaches p x stands.good);
    longer = λ p s x stands. rw stands.cut (part-longer p x);
  }

  part_local : Local GracePart (StandsInGrace bang) grace_part_then
  part_local = record {
    spells = λ p s x stands. stands.cut;
    moves = λ p s x t y stands e. record { good = stands.good; cut = e };
    appends = part_append;
  }

  -- ---- what the result of a reader's call states
  abbrev given : GracePart × List ℕ → List GraceChord × Bool × Option (List ℕ) × List ℕ
  given z = bodied (body_of_part z.0) (part_has_length z.0) (inside_of_part z.0) z.1

  pub record FoundPart (s : List ℕ) (body : List GraceChord) (lengthy : Bool) (inside : Option (List ℕ))
      (following : List ℕ) : Type 0 where
    pub part : GracePart
    pub at : grace_part_at bang s ≡ Some (part_with part following)
    pub gives : body ≡ body_of_part part
    pub has : lengthy ≡ part_has_length part
    pub encloses : inside ≡ inside_of_part part

  pub found_part : (s : List ℕ) {body : List GraceChord} {lengthy : Bool} {inside : Option (List ℕ)}
      {following : List ℕ}
      → Some (bodied body lengthy inside following) ≡ option_map given (grace_part_at bang s)
      → FoundPart s body lengthy inside following
  found_part s h =
      let o = read_from given (grace_part_at bang s) _ h in
      record {
        part = o.0.0;
        at = o.1 ∙ ap (λ x. Some (part_with o.0.0 x)) (sym (ap (λ p. p.3) o.2));
        gives = ap (λ p. p.0) o.2;
        has = ap (λ p. p.1) o.2;
        encloses = ap (λ p. p.2) o.2;
      }

  pub none_part : (s : List ℕ) → None ≡ option_map given (grace_part_at bang s) → grace_part_at bang s ≡ None
  none_part s h = none_from given (grace_part_at bang s) h

  -- ---- the state of a loop over the inside
  pub record Group (w : List ℕ) (before : Option ℕ) (rest : List ℕ) : Type 0 where
    pub left : (walk (grace_part_at bang) rest).1 ≡ (walk (grace_part_at bang) w).1
    pub flaw : (f : Flaw) → GraceFlawed bang before rest f → GraceFlawed bang None w f
    pub within : length rest ≤ length w
    pub small : at_most (length w) before
    pub following : at_least (length rest) before

  pub group-begins : (w : List ℕ) → Group w None w
  group-begins w = record { left = refl; flaw = λ f h. h; within = omega arith; small = tt; following = tt }

  place_after : (b : Bool) (n here : ℕ) → n ≤ here → at_least n (length_at_place b here)
  place_after true n here h = h
  place_after false n here h = tt

  stuck_at : (before : Option ℕ) (rest : List ℕ) (flaw : Flaw)
      → grace_part_at bang rest ≡ None → IsPartFlaw bang before rest flaw
      → GraceFlawed bang before rest flaw
  stuck_at before [] flaw none is = absurd is
  stuck_at before (b ∷ rest) flaw none is = stuck_here before b rest flaw (none_of part_reader (b ∷ rest) none) is

  flaw_small : (before : Option ℕ) (left here n : ℕ) → at_most n before → at_least here before → here ≤ n →
      MatchOption before (left ≤ here) (λ at. here ≤ at → left ≤ at) → left ≤ n
  flaw_small None left here n small following h within = omega (arith, h, within)
  flaw_small (Some at) left here n small following h within = omega (arith, small, within following)

  module _ {s following : List ℕ} {body : List GraceChord} {lengthy : Bool} {inside : Option (List ℕ)}
      (f : FoundPart s body lengthy inside following) where
    pub part_less : length following < length s
    part_less = less part_reader s (f.part, following) f.at

    pub group-next : {w : List ℕ} {before place : Option ℕ}
        → Group w before s → place ≡ length_at_place lengthy (length s) → Group w place following
    group-next {w} {before} stage placed =
        let later = λ (flaw : Flaw) (h : GraceFlawed bang (length_at_place lengthy (length s)) following flaw).
        stuck_later before s f.part following flaw (longest_of part_reader s (f.part, following) f.at)
        (rw f.has at h) in
        rw placed (record {
          left = sym (left_some part_reader s (f.part, following) f.at) ∙ stage.left;
          flaw = λ flaw h. stage.flaw flaw (later flaw h);
          within = omega (arith, stage.within, part_less);
          small = place_small lengthy (length w) (length s) stage.within;
          following = place_after lengthy (length following) (length s) (omega (arith, part_less));
        })

    -- the body
    pub body-next : (out : List GraceChord) {new total : List GraceChord}
        → new ≡ out ++ body → out ++ body_inside bang s ≡ total
        → new ++ body_inside bang following ≡ total
    body-next out push so_far =
        rw (push, append_assoc, f.gives) (rw (walk-some part_reader s (f.part, following) f.at) at so_far)

  pub body-end : {out total : List GraceChord} (s : List ℕ)
      → grace_part_at bang s ≡ None → out ++ body_inside bang s ≡ total → out ≡ total
  body-end s none so_far = rw (walk-none part_reader s none, append-nil) at so_far

  module _ {w : List ℕ} {before : Option ℕ} {rest : List ℕ} (stage : Group w before rest) where
    pub group-stuck : {flaw : Flaw}
        → (length rest ≡ 0 → ⊥) → grace_part_at bang rest ≡ None → IsPartFlaw bang before rest flaw
        → MatchOption before (flaw.left ≤ length rest) (λ at. length rest ≤ at → flaw.left ≤ at) →
        (is_done (walk (grace_part_at bang) w) ≡ false) × GraceFlawed bang None w flaw × (flaw.left ≤ length w)
    group-stuck {flaw} some none is within = (
      rw (sym stage.left, left_none part_reader rest none) (ne_eqb (length rest) 0 some),
      stage.flaw flaw (stuck_at before rest flaw none is),
      flaw_small before flaw.left (length rest) (length w) stage.small stage.following stage.within within,
    )

    pub group-ends : length rest ≡ 0 → is_done (walk (grace_part_at bang) w) ≡ true
    unfolding walk
    group-ends none = let empty = nil_from_length rest none in rw (sym stage.left, empty) refl

  -- ---- a found brace closes good parts
  pub record ClosedGroup (text c : List ℕ) : Type 0 where
    pub prefix : List ℕ
    pub rest : List ℕ
    pub parts : List GracePart
    pub is : c ≡ 125 ∷ rest
    pub cut : text ≡ prefix ++ c
    pub good : GraceParts bang prefix parts

  here-closes : (text c : List ℕ) → brace_here text ≡ Some c → ClosedGroup text c
  here-closes [] c e = absurd cc
  here-closes (b ∷ s) c e =
      let found = cond_some _ _ _ e in
      record {
        prefix = [];
        rest = s;
        parts = [];
        is = sym found.1 ∙ ap (λ x. x ∷ s) (eqb-true b 125 found.0);
        cut = found.1;
        good = no_part;
      }

  abbrev good_before : List ℕ → Bool
  good_before t = is_done (walk (grace_part_at bang) t)

  good_parts : (t : List ℕ) → good_before t ≡ true → GraceParts bang t (walk (grace_part_at bang) t).0
  good_parts t h = parts_of_walk part_reader t (eqb-true _ 0 h)

  in-closes : (s c : List ℕ) (r : Option (List ℕ × List ℕ))
      → IfSome r (λ z. IsName z.0 × (s ≡ z.0 ++ (33 ∷ z.1))) → brace_in bang s r ≡ Some c
      → NameCut 125 good_before s c
  in-closes s c None t e = absurd cc
  in-closes s c (Some named) t e = name_upto-closes 125 good_before s c named t e

  in_name-closes : (text c : List ℕ) → brace_in_name bang text ≡ Some c → ClosedGroup text c
  unfolding brace_in_name
  in_name-closes [] c e = absurd cc
  in_name-closes (b ∷ s) c e =
      let found = cond_then _ _ _ e in let p = and_parts _ _ found.0 in
      let k = in-closes s c (name_at s) (name_at-takes s) found.1 in let u = 33 ∷ k.before in
      let lone = single_at u (lone_inside, k.before) (lone_at bang k.before (not-true bang p.1) k.names) in
      let longest = longest_of part_reader u (single lone_inside, k.before) lone in
      record {
        prefix = u;
        rest = k.rest;
        parts = single lone_inside ∷ (walk (grace_part_at bang) k.before).0;
        is = k.is;
        cut = ap (λ x. x ∷ s) (eqb-true b 33 p.0) ∙ ap (λ x. 33 ∷ x) k.cut;
        good = then_part u (single lone_inside) k.before _ longest (good_parts k.before k.good);
      }

  -- ---- the last brace before which there are only parts
  closes_there : (text : List ℕ) (n : ℕ) → closes_at bang text n ≡ true → ClosedGroup text (drop n text)
  closes_there text n h =
      let p = and_parts _ _ h in let first = first_close 125 (drop n text) p.0 in
      let good = good_parts (take n text) p.1 in
      record {
        prefix = take n text;
        rest = first.0;
        parts = _;
        is = first.1;
        cut = sym (take-append-drop n text);
        good = good;
      }

  found_closes : (text c : List ℕ) (n : ℕ) → last_closing bang text n ≡ Some c → ClosedGroup text c
  found_closes text c zero e =
      let found = cond_some _ _ _ e in subst (ClosedGroup text) found.1 (closes_there text 0 found.0)
  found_closes text c (suc n) e =
      cond_both (closes_at bang text (suc n)) (Some (drop (suc n) text)) (last_closing bang text n)
      (λ r. r ≡ Some c → ClosedGroup text c)
      (λ h e. subst (ClosedGroup text) (same_Some (drop (suc n) text) c e) (closes_there text (suc n) h))
      (λ h e. found_closes text c n e) e

  pub brace_at-closes : (text c : List ℕ) → brace_at bang text ≡ Some c → ClosedGroup text c
  unfolding brace_at
  brace_at-closes text c e = found_closes text c (length text) e

  pub brace_within : (text c : List ℕ) → brace_at bang text ≡ Some c → length c ≤ length text
  brace_within text c found =
      let k = brace_at-closes text c found in omega (arith, ap length k.cut, length-append k.prefix c)

  closes_so : (text d : List ℕ) (k : ClosedGroup text d) → closes_at bang text (length k.prefix) ≡ true
  closes_so text d k =
      let read = walk_of_parts part_reader k.prefix k.parts k.good in
      rw (k.cut, k.is, drop-append_seam k.prefix (125 ∷ k.rest), take-append_seam k.prefix (125 ∷ k.rest), read) refl

  abbrev AtLast : List ℕ → Option (List ℕ) → Type 0
  AtLast d r = (c : List ℕ) × (r ≡ Some c) × (length c ≤ length d)

  found_reaches : (text d : List ℕ) (k : ClosedGroup text d) (n : ℕ)
      → length k.prefix ≤ n → AtLast d (last_closing bang text n)
  found_reaches text d k zero h =
      let none : length k.prefix ≡ 0 = omega (arith, h) in
      let here = subst (λ n. closes_at bang text n ≡ true) none (closes_so text d k) in
      (text, rw here refl, omega (arith, none, ap length k.cut, length-append k.prefix d))
  found_reaches text d k (suc n) h =
      cond_both (closes_at bang text (suc n)) (Some (drop (suc n) text)) (last_closing bang text n) (AtLast d)
      (λ e.
      (drop (suc n) text, refl, omega (arith, h, length-drop (suc n) text, ap length k.cut, length-append k.prefix d)))
      (λ e. elim (cases_lt n (length k.prefix)) [
        | inr before ↦ found_reaches text d k n before
        | inl past ↦
            (let last : length k.prefix ≡ suc n = omega (arith, h, past) in
            absurd (both_ways _ e (subst (λ m. closes_at bang text m ≡ true) last (closes_so text d k))))
      ])

  pub brace_at-last : (text d : List ℕ) → ClosedGroup text d → AtLast d (brace_at bang text)
  unfolding brace_at
  brace_at-last text d k =
      found_reaches text d k (length text) (omega (arith, ap length k.cut, length-append k.prefix d))

  same_brace : {text c d : List ℕ} → ClosedGroup text c → ClosedGroup text d → length c ≡ length d → c ≡ d
  same_brace {text} {c} {d} k l same =
      cut_cases k.prefix l.prefix c d (sym k.cut ∙ l.cut) (omega (arith, same)) (λ prefix following. sym following)
      (λ b m prefix following. absurd (omega (arith, same, ap length following, length-append m c)))

  -- the last of the braces that are more than `least` bytes from the end
  record GivesLast (text : List ℕ) (least : ℕ) (r : Option (List ℕ)) : Type 0 where
    closes : (c : List ℕ) → r ≡ Some c → ClosedGroup text c
    reaches : (d : List ℕ) → ClosedGroup text d → least < length d → AtLast d r

  pub none_there : (text : List ℕ) (r : Option (List ℕ))
      → brace_at bang text ≡ r → ((d : List ℕ) → ClosedGroup text d → ⊥) → r ≡ None
  none_there text None e h = refl
  none_there text (Some c) e h = absurd (h c (brace_at-closes text c e))

  last_is : (text : List ℕ) (r : Option (List ℕ)) → GivesLast text 0 r → brace_at bang text ≡ r
  last_is text None h =
      none_there text (brace_at bang text) refl
      (λ d k. let clash = (h.reaches d k (omega (arith, ap length k.is))).1 in cc)
  last_is text (Some c) h =
      let k = h.closes c refl in let o = brace_at-last text c k in
      let found = brace_at-closes text o.0 o.1 in
      let back = h.reaches o.0 found (omega (arith, ap length found.is)) in
      o.1 ∙ ap Some (same_brace found k (omega (arith, o.2, back.2, ap length (same_Some c back.0 back.1))))

  at_brace : (t : List ℕ) → grace_part_at bang (125 ∷ t) ≡ None
  unfolding grace_part_at inner_at item_class
  at_brace t = refl

  -- where there is no part, only a brace at the start closes
  nothing_before : (u d text : List ℕ) (ps : List GracePart)
      → GraceParts bang u ps → text ≡ u ++ d → grace_part_at bang text ≡ None → text ≡ d
  nothing_before _ d text _ no_part cut none = cut
  nothing_before _ d text _ (then_part u part v more l others) cut none =
      let there = cut ∙ ap (λ s. s ++ d) l.stands.cut ∙ part_append part v d in
      absurd (none_of part_reader text none part (v ++ d) (record { good = l.stands.good; cut = there }))

  prefix_none : (text d : List ℕ) → grace_part_at bang text ≡ None → ClosedGroup text d → text ≡ d
  prefix_none text d none k = nothing_before k.prefix d text k.parts k.good k.cut none

  pub brace-none : (text : List ℕ) → grace_part_at bang text ≡ None → brace_at bang text ≡ brace_here text
  brace-none text none = last_is text (brace_here text) (record {
    closes = here-closes text;
    reaches = λ d k some. (d, ap brace_here (prefix_none text d none k ∙ k.is) ∙ ap Some (sym k.is), omega arith);
  })

  -- the parts before a brace begin with the first part of the text, if that part ends before the brace
  abbrev FirstPart : List ℕ → Type 0
  FirstPart u =
      (z : GracePart × List ℕ) × (more : List GracePart) × (grace_part_at bang u ≡ Some z) × GraceParts bang z.1 more

  first_of_parts : (u d rest : List ℕ) (ps : List GracePart) (z : GracePart × List ℕ)
      → GraceParts bang u ps → d ≡ 125 ∷ rest
      → grace_part_at bang (u ++ d) ≡ Some z → FirstPart u
  first_of_parts _ d rest _ z no_part is e =
      absurd (let clash = sym (at_brace rest) ∙ ap (grace_part_at bang) (sym is) ∙ e in cc)
  first_of_parts _ d rest _ z (then_part u part v more l others) is e =
      ((part, v), more, longest_is part_reader u part v l, others)

  module _ (text : List ℕ) (z : GracePart × List ℕ) (e : grace_part_at bang text ≡ Some z) where
    first_part : (d : List ℕ) (k : ClosedGroup text d) → FirstPart k.prefix
    first_part d k = first_of_parts k.prefix d k.rest k.parts z k.good k.is (ap (grace_part_at bang) (sym k.cut) ∙ e)

    after_closes : (d : List ℕ) → ClosedGroup text d → length d ≤ length z.1 → ClosedGroup z.1 d
    after_closes d k short =
        let a = read_cut part_reader part_local k.prefix d z (ap (grace_part_at bang) (sym k.cut) ∙ e) short in
        let f = first_part d k in let same = some_pair_parts f.0.0 z.0 f.0.1 a.prefix (sym f.2 ∙ a.at_cut) in
        let good = subst (λ (x : List ℕ). GraceParts bang x f.1) same.1 f.3 in
        record { prefix = a.prefix; rest = k.rest; parts = f.1; is = k.is; cut = a.following; good = good }

    then-closes : (c : List ℕ) → ClosedGroup z.1 c → ClosedGroup text c
    then-closes c k =
        let u = grace_part_then z.0 k.prefix in
        let joined = joined_cut part_reader part_local text c k.prefix z e k.cut in
        let good = then_part u z.0 k.prefix k.parts (longest_of part_reader u (z.0, k.prefix) joined.1) k.good in
        record { prefix = u; rest = k.rest; parts = z.0 ∷ k.parts; is = k.is; cut = joined.0; good = good }

    or_closes : (c : List ℕ) (later x : Option (List ℕ))
        → GivesLast text (length z.1) x → brace_at bang z.1 ≡ later → later_or later x ≡ Some c
        → ClosedGroup text c
    or_closes c None x k later found = k.closes c found
    or_closes c (Some d) x k later found = then-closes c (brace_at-closes z.1 c (later ∙ found))

    or_past : (d : List ℕ) (later x : Option (List ℕ))
        → brace_at bang z.1 ≡ later → length z.1 < length d → AtLast d x → AtLast d (later_or later x)
    or_past d None x later past o = o
    or_past d (Some c) x later past o = (c, refl, omega (arith, past, brace_within z.1 c later))

    brace-some : (x : Option (List ℕ))
        → GivesLast text (length z.1) x → brace_at bang text ≡ later_or (brace_at bang z.1) x
    brace-some x k = last_is text (later_or (brace_at bang z.1) x) (record {
      closes = λ c found. or_closes c (brace_at bang z.1) x k refl found;
      reaches = λ d other some. elim (cases_lt (length z.1) (length d)) [
        | inr before ↦ (let o = brace_at-last z.1 d (after_closes d other before) in (o.0, rw o.1 refl, o.2))
        | inl past ↦ or_past d (brace_at bang z.1) x refl past (k.reaches d other past)
      ];
    })

  -- parts in a name close no group
  clear_part : (p : GracePart)
      → IsGracePart bang p
      → let s = grace_part_then p [] in list_all is_name_byte s ≡ true → list_all is_in_grace s ≡ true
  clear_part (single f) good h =
      wider free is_in_grace (inner_then f []) in_grace_wide (inner_free bang f good (not_named f [] h))
  clear_part (chorded f) good h =
      let len = length_then f.length [] in let names = all_parts is_name_byte f.inside (93 ∷ len) h in
      let inside =
      wider free is_in_grace f.inside in_grace_wide (clear_parts bang f.inside f.parts good.parts names.0) in
      all_join is_in_grace f.inside (93 ∷ len) inside
      (wider free is_in_grace len in_grace_wide (length_free f.length good.length))

  clear_group : (s : List ℕ) (parts : List GracePart)
      → GraceParts bang s parts → list_all is_name_byte s ≡ true → list_all is_in_grace s ≡ true
  clear_group _ _ no_part h = refl
  clear_group _ _ (then_part text p rest more l others) h =
      let one = grace_part_then p [] in let cut : text ≡ one ++ rest = l.stands.cut ∙ sym (part_append p [] rest) in
      let names = all_parts is_name_byte one rest (ap (list_all is_name_byte) (sym cut) ∙ h) in
      rw cut (all_join is_in_grace one rest (clear_part p l.stands.good names.0) (clear_group rest more others names.1))

  -- a brace in a name
  in_name-found : (before after rest : List ℕ) (ps : List GracePart)
      → bang ≡ false → IsName (before ++ (125 ∷ after)) → GraceParts bang before ps
      → brace_in_name bang (33 ∷ ((before ++ (125 ∷ after)) ++ (33 ∷ rest))) ≡ Some (125 ∷ (after ++ (33 ∷ rest)))
  unfolding brace_in_name
  in_name-found before after rest parts off good group =
      let name = before ++ (125 ∷ after) in
      let clear = clear_group before parts group (all_parts is_name_byte before (125 ∷ after) good.bytes).0 in
      let passes : good_before before ≡ true = rw (walk_of_parts part_reader before parts group) refl in
      cond-true (not bang) _ None (not_from_false bang off)
      ∙ ap (brace_in bang (name ++ (33 ∷ rest))) (name_at-reads name rest good)
      ∙ name_upto-found 125 good_before before after rest refl clear passes

  -- a brace within a name
  cross_single : (text d : List ℕ) (f : Inner) (rest : List ℕ)
      → grace_part_at bang text ≡ Some (part_with (single f) rest) → ClosedGroup text d
      → length rest < length d → brace_in_name bang text ≡ Some d
  cross_single text d f rest e k short =
      let stands = stands_at part_reader text (single f, rest) e in let line = k.cut ∙ ap (λ x. k.prefix ++ x) k.is in
      let c = crossing bang 125 f k.prefix k.rest rest refl refl stands.good (sym line ∙ stands.cut)
      (omega (arith, short, ap length k.is)) in
      let first = first_part text (single f, rest) e d k in
      let lone = single_at k.prefix (lone_inside, c.before) c.lone in
      let same = some_pair_parts first.0.0 (single lone_inside) first.0.1 c.before (sym first.2 ∙ lone) in
      let group = subst (λ (x : List ℕ). GraceParts bang x first.1) same.1 first.3 in
      ap (brace_in_name bang) (line ∙ c.spelled)
      ∙ in_name-found c.before c.after rest first.1 c.off c.name group
      ∙ ap Some (c.tail ∙ sym k.is)

  -- a brace within a chord
  abbrev tail_of : ChordForm → List ℕ → List ℕ
  tail_of f rest = 93 ∷ length_then f.length rest

  -- a brace that is after the leading bracket, but not after the chord, is between the chord's brackets
  brace_inside : (f : ChordForm) (rest d : List ℕ)
      → IsChord bang f → ClosedGroup (91 ∷ chord_then f rest) d → length rest < length d
      → length (tail_of f rest) ≤ length d
  brace_inside f rest d good k short = elim (cases_lt (length d) (length (tail_of f rest))) [
    | inr far ↦ far
    | inl near ↦ absurd (
        cut_cases k.prefix (91 ∷ f.inside) d (tail_of f rest) (sym k.cut) (omega (arith, near))
        (λ prefix following. omega (arith, near, ap length following))
        (λ b m prefix following.
        let past = rest_same following ∙ ap (λ x. m ++ x) k.is in
        length_past 125 f.length rest m k.rest refl good.length past (omega (arith, short, ap length k.is))))
  ]

  chord_reaches : (f : ChordForm) (rest d : List ℕ)
      → IsChord bang f → ClosedGroup (91 ∷ chord_then f rest) d → length rest < length d
      → AtLast d (option_map (λ b. b ++ tail_of f rest) (brace_at bang (91 ∷ f.inside)))
  chord_reaches f rest d good k short =
      let tail = tail_of f rest in
      cut_cases (91 ∷ f.inside) k.prefix tail d k.cut (brace_inside f rest d good k short)
      (λ prefix following. absurd (omega (arith, first_same (sym k.is ∙ following))))
      (λ b m prefix following.
      let is = ap (λ x. x ∷ m) (first_same (sym following ∙ k.is)) in
      let o = brace_at-last (91 ∷ f.inside) (b ∷ m)
      (record { prefix = k.prefix; rest = m; parts = k.parts; is = is; cut = prefix; good = k.good }) in
      let found = ap (option_map (λ (b : List ℕ). b ++ tail)) o.1 in
      (o.0 ++ tail, found, omega (arith, o.2, ap length following, length-append m tail, length-append o.0 tail)))

  chord_closes : (f : ChordForm) (rest c : List ℕ)
      → option_map (λ b. b ++ tail_of f rest) (brace_at bang (91 ∷ f.inside)) ≡ Some c
      → ClosedGroup (91 ∷ chord_then f rest) c
  chord_closes f rest c e =
      let tail = tail_of f rest in let m = read_from (λ b. b ++ tail) (brace_at bang (91 ∷ f.inside)) c (sym e) in
      let k = brace_at-closes (91 ∷ f.inside) m.0 m.1 in
      record {
        prefix = k.prefix;
        rest = k.rest ++ tail;
        parts = k.parts;
        is = m.2 ∙ ap (λ (x : List ℕ). x ++ tail) k.is;
        cut = ap (λ (x : List ℕ). x ++ tail) k.cut ∙ append_assoc k.prefix m.0 tail ∙ ap (λ x. k.prefix ++ x) (sym m.2);
        good = k.good;
      }

  in_chord : (f : ChordForm) (rest : List ℕ) → IsChord bang f →
      GivesLast (91 ∷ chord_then f rest) (length rest) (brace_in_part bang (chorded f) (91 ∷ chord_then f rest))
  unfolding brace_in_chord
  in_chord f rest good =
      let tail : drop (suc (length f.inside)) (91 ∷ chord_then f rest) ≡ tail_of f rest =
      drop-append_seam (91 ∷ f.inside) (tail_of f rest) in
      rw tail (record { closes = chord_closes f rest; reaches = λ d k short. chord_reaches f rest d good k short })

  in_part : (text rest : List ℕ) (p : GracePart) → grace_part_at bang text ≡ Some (part_with p rest) →
      GivesLast text (length rest) (brace_in_part bang p text)
  in_part text rest (single f) e =
      record {
        closes = in_name-closes text;
        reaches = λ d k short. (d, cross_single text d f rest e k short, omega arith);
      }
  in_part text rest (chorded f) e =
      let stands = stands_at part_reader text (chorded f, rest) e in rw stands.cut (in_chord f rest stands.good)

  pub brace-part : (text rest : List ℕ) (p : GracePart) → grace_part_at bang text ≡ Some (part_with p rest) →
      brace_at bang text ≡ later_or (brace_at bang rest) (brace_in_part bang p text)
  brace-part text rest p e = brace-some text (p, rest) e (brace_in_part bang p text) (in_part text rest p e)

  -- the chord of a text, and shorter ones
  pub chord-none : (w : List ℕ) → bracket_at bang w ≡ None → brace_in_chord bang w ≡ None
  unfolding chord_at brace_in_chord
  chord-none w none = brace-none (91 ∷ w) (at_bracket w ∙ rw none refl)

  abbrev form_of : List ℕ → List ℕ → ChordForm
  form_of inside rest =
      record { inside = inside; parts = (walk (inner_at bang) inside).0; length = (length_from rest).0 }

  read_form : (w c : List ℕ) (b : ℕ) → bracket_at bang w ≡ Some (b ∷ c) →
      chord_at bang w ≡ Some (form_of (take (length w - length (b ∷ c)) w) c, (length_from c).1)
  unfolding chord_at
  read_form w c b e = rw e refl

  pub chord-some : (w c : List ℕ) → bracket_at bang w ≡ Some c →
      brace_in_chord bang w
      ≡ later_or (brace_after bang c) (option_map (λ b. b ++ c) (brace_in_chord bang (take (length w - length c) w)))
  unfolding brace_in_chord
  chord-some w [] e = absurd (let k = bracket_at-closes bang w [] e in omega (arith, ap length k.is))
  chord-some w (b ∷ c) e =
      let k = bracket_at-closes bang w (b ∷ c) e in let inside = take (length w - length (b ∷ c)) w in
      let prefix : inside ≡ k.prefix = cut_off w k.prefix (b ∷ c) k.cut in
      let at = at_bracket w ∙ ap (option_map chorded_read) (read_form w c b e) in
      let tail : drop (length inside) w ≡ b ∷ c =
      ap (λ (t : List ℕ). drop (length t) w) prefix
      ∙ ap (drop (length k.prefix)) k.cut
      ∙ drop-append_seam k.prefix (b ∷ c) in
      brace-part (91 ∷ w) (length_from c).1 (chorded (form_of inside c)) at
      ∙ ap (λ (t : List ℕ).
      later_or (brace_at bang (length_from c).1) (option_map (λ (x : List ℕ). x ++ t) (brace_at bang (91 ∷ inside))))
      tail

  -- if no exclamation mark is skipped, neither in the group nor in its chords, the line is read as the inside is
  abbrev with_length : ChordForm → LengthForm → ChordForm
  with_length f l = record { inside = f.inside; parts = f.parts; length = l }

  chord_past : (f : ChordForm) (v t : List ℕ) (z : GracePart × List ℕ) → IsChord bang f → has_lone f.parts ≡ false →
      grace_part_at bang (91 ∷ chord_then f (v ++ (125 ∷ t))) ≡ Some z → length z.1 < length (125 ∷ t) → ⊥
  chord_past f v t z good whole e past =
      let x = v ++ (125 ∷ t) in let l = length_from (length_then f.length x) in
      let takes = length_at-takes (length_then f.length x) in
      let read = at_bracket (chord_then f x) ∙ ap (option_map chorded_read) (chord-reads bang f x good whole) in
      let same = some_pair_parts z.0 (chorded (with_length f l.0)) z.1 l.1 (sym e ∙ read) in
      let line = sym takes.0 ∙ sym (length_append f.length v (125 ∷ t)) in
      length_past 125 l.0 l.1 (length_then f.length v) t refl takes.1 line (omega (arith, past, ap length same.1))

  part_past : (part : GracePart) (u v t : List ℕ) (z : GracePart × List ℕ)
      → lone_part_is part ≡ false → StandsInGrace bang part u v
      → grace_part_at bang u ≡ Some (part, v) → grace_part_at bang (u ++ (125 ∷ t)) ≡ Some z
      → length z.1 < length (125 ∷ t)
      → ⊥
  part_past (single f) u v t z whole stands at e past =
      let text = u ++ (125 ∷ t) in let r = inner_reader bang in
      let o = r.reaches f text (v ++ (125 ∷ t))
      (moved r (inner_local bang) f u v (125 ∷ t) (record { good = stands.good; cut = stands.cut })) in
      let there = stands_at r text o.0 o.1 in
      let same = some_pair_parts z.0 (single o.0.0) z.1 o.0.1 (sym e ∙ single_at text o.0 o.1) in
      let k =
      crossing bang 125 o.0.0 u t o.0.1 refl refl there.good there.cut (omega (arith, past, ap length same.1)) in
      let lone = some_pair_parts (single f) (single lone_inside) v k.before
      (sym at ∙ single_at u (lone_inside, k.before) k.lone) in
      both_ways (is_lone f) whole (ap lone_part_is lone.0)
  part_past (chorded f) u v t z whole stands at e past =
      let spelled = ap (λ s. s ++ (125 ∷ t)) stands.cut ∙ part_append (chorded f) v (125 ∷ t) in
      chord_past f v t z stands.good whole (ap (grace_part_at bang) (sym spelled) ∙ e) past

  nothing_past : (u t d : List ℕ) (ps : List GracePart)
      → GraceParts bang u ps → has_lone_part ps ≡ false → ClosedGroup (u ++ (125 ∷ t)) d
      → length (125 ∷ t) ≤ length d
  nothing_past _ t d _ no_part whole k = omega (arith, ap length (prefix_none (125 ∷ t) d (at_brace t) k))
  nothing_past _ t d _ (then_part u part v more l others) whole k =
      let w = or_parts (lone_part_is part) (has_lone_part more) whole in
      elim (read_on part_reader part_local part u v (125 ∷ t) l) [
        | inr past ↦ absurd (part_past part u v t past.0 w.0 l.stands (longest_is part_reader u part v l) past.1 past.2)
        | inl on ↦ elim (cases_lt (length (v ++ (125 ∷ t))) (length d)) [
          | inr before ↦
              nothing_past v t d more others w.1 (after_closes (u ++ (125 ∷ t)) (part, v ++ (125 ∷ t)) on d k before)
          | inl far ↦ omega (arith, far, length-append v (125 ∷ t))
        ]
      ]

  -- ---- a group
  abbrev pub TakesGrace : List ℕ → Option (GraceForm × List ℕ) → Type 0
  TakesGrace s r = IfSome r (λ z. IsGrace bang z.0 × (s ≡ grace_then z.0 z.1))

  -- if no slash is read, none comes next
  no_slash : (s : List ℕ) → (skip 47 s).0 ≡ false → begins is_slash_byte (skip 47 s).1 ≡ false
  no_slash s =
      skip_cases 47 s (λ p. p.0 ≡ false → begins is_slash_byte p.1 ≡ false) (λ t e is. absurd cc) (λ none is. none)

  first_of : (p : ℕ → Bool) (a b : List ℕ) → begins p (a ++ b) ≡ false → begins p a ≡ false
  first_of p [] b h = refl
  first_of p (x ∷ a) b h = h

  grace_from-takes : (b : Bool) (s t : List ℕ) (r : Option (List ℕ))
      → HasSlash s b t → brace_at bang t ≡ r → TakesGrace s (grace_from bang b t r)
  grace_from-takes slash s t None has e = tt
  grace_from-takes slash s t (Some []) has e = tt
  grace_from-takes slash s t (Some (b ∷ c)) has e =
      let k = brace_at-closes t (b ∷ c) e in
      let whole : t ≡ k.prefix ++ (125 ∷ c) = k.cut ∙ ap (λ x. k.prefix ++ (x ∷ c)) (first_same k.is) in
      let read = λ (h : slash ≡ false).
      first_of is_slash_byte k.prefix (125 ∷ c) (ap (begins is_slash_byte) (sym whole) ∙ has.is_read h) in
      rw (cut_off t k.prefix (b ∷ c) k.cut, walk_of_parts part_reader k.prefix k.parts k.good)
      (record { parts = k.good; slash_is_read = read }, has.cut ∙ ap (maybe slash 47) whole)

  pub grace_at-takes : (s : List ℕ) → TakesGrace s (grace_at bang s)
  unfolding grace_at
  grace_at-takes s =
      grace_from-takes (skip 47 s).0 s (skip 47 s).1 _ (record { cut = skip-takes 47 s; is_read = no_slash s }) refl

  lacks_slash : (w x : List ℕ) → begins is_slash_byte w ≡ false → Lacks 47 (w ++ (125 ∷ x))
  lacks_slash [] x h = refl
  lacks_slash (b ∷ w) x h = h

  slash_read : (slash : Bool) (w x : List ℕ) → (slash ≡ false → begins is_slash_byte w ≡ false) →
      skip 47 (maybe slash 47 (w ++ (125 ∷ x))) ≡ (slash, w ++ (125 ∷ x))
  unfolding skip
  slash_read true w x h = refl
  slash_read false w x h = skip-lacks 47 (w ++ (125 ∷ x)) (lacks_slash w x (h refl))

  at_closing : (f : GraceForm) (x c : List ℕ) → IsGrace bang f → brace_at bang (f.inside ++ (125 ∷ x)) ≡ Some c →
      grace_at bang (grace_then f x) ≡ grace_from bang f.slash (f.inside ++ (125 ∷ x)) (Some c)
  unfolding grace_at
  at_closing f x c good e = rw (slash_read f.slash f.inside x good.slash_is_read, e) refl

  group_there : (f : GraceForm) (x : List ℕ) → IsGrace bang f → ClosedGroup (f.inside ++ (125 ∷ x)) (125 ∷ x)
  group_there f x good =
      record { prefix = f.inside; rest = x; parts = f.parts; is = refl; cut = refl; good = good.parts }

  grace_there : (f : GraceForm) (x c : List ℕ)
      → IsGrace bang f → brace_at bang (f.inside ++ (125 ∷ x)) ≡ Some c → length c ≡ length (125 ∷ x)
      → grace_at bang (grace_then f x) ≡ Some (f, x)
  grace_there f x c good e whole =
      let d = 125 ∷ x in let same = same_brace (brace_at-closes (f.inside ++ d) c e) (group_there f x good) whole in
      let inside : take (length (f.inside ++ d) - length d) (f.inside ++ d) ≡ f.inside =
      cut_off (f.inside ++ d) f.inside d refl in
      at_closing f x d good (e ∙ ap Some same) ∙ rw (inside, walk_of_parts part_reader f.inside f.parts good.parts) refl

  longer_grace : (f : GraceForm) (x c : List ℕ)
      → IsGrace bang f → brace_at bang (f.inside ++ (125 ∷ x)) ≡ Some c → length c < length (125 ∷ x)
      → (z : GraceForm × List ℕ) × (grace_at bang (grace_then f x) ≡ Some z) × ((length z.1 < length x) ⊎ (z ≡ (f, x)))
  longer_grace f x [] good e shorter =
      absurd (let k = brace_at-closes (f.inside ++ (125 ∷ x)) [] e in omega (arith, ap length k.is))
  longer_grace f x (b ∷ c) good e shorter =
      let text = f.inside ++ (125 ∷ x) in let inside = take (length text - length (b ∷ c)) text in
      let form : GraceForm =
      record { slash = f.slash; inside = inside; parts = (walk (grace_part_at bang) inside).0 } in
      ((form, c), at_closing f x (b ∷ c) good e, inl (omega (arith, shorter)))

  pub grace_at-reaches : (f : GraceForm) (x : List ℕ) → IsGrace bang f →
      (z : GraceForm × List ℕ) × (grace_at bang (grace_then f x) ≡ Some z) × ((length z.1 < length x) ⊎ (z ≡ (f, x)))
  grace_at-reaches f x good =
      let o = brace_at-last (f.inside ++ (125 ∷ x)) (125 ∷ x) (group_there f x good) in
      elim (cases_lt (length o.0) (length (125 ∷ x))) [
        | inr far ↦ ((f, x), grace_there f x o.0 good o.1 (omega (arith, far, o.2)), inr refl)
        | inl shorter ↦ longer_grace f x o.0 good o.1 shorter
      ]

  -- if no exclamation mark is skipped, the group itself is read
  pub grace-reads : (f : GraceForm) (x : List ℕ)
      → IsGrace bang f → has_lone_part f.parts ≡ false → grace_at bang (grace_then f x) ≡ Some (f, x)
  grace-reads f x good whole =
      let text = f.inside ++ (125 ∷ x) in let o = brace_at-last text (125 ∷ x) (group_there f x good) in
      let far = nothing_past f.inside x o.0 f.parts good.parts whole (brace_at-closes text o.0 o.1) in
      grace_there f x o.0 good o.1 (omega (arith, far, o.2))

  -- ---- the state of the loop that looks for the last brace
  pub record SeekingBrace (text : List ℕ) (last : Option (List ℕ)) (rest : List ℕ) : Type 0 where
    pub found : later_or (brace_at bang rest) last ≡ brace_at bang text
    pub within : length rest ≤ length text

  pub seeking-begins : (text : List ℕ) → SeekingBrace text None text
  seeking-begins text = record { found = later_none (brace_at bang text); within = omega arith }

  pub seeking-next : {text rest : List ℕ} {last next : Option (List ℕ)} (following : List ℕ) (part : GracePart)
      → SeekingBrace text last rest
      → grace_part_at bang rest ≡ Some (part_with part following) → next ≡ later_or (brace_in_part bang part rest) last
      → SeekingBrace text next following
  seeking-next {text} {rest} {last} following part stage e later =
      let found = ap (λ r. later_or r last) (sym (brace-part rest following part e)) ∙ stage.found in
      rw later (record {
        found = sym (later_assoc (brace_at bang following) (brace_in_part bang part rest) last) ∙ found;
        within = omega (arith, less part_reader rest (part, following) e, stage.within);
      })

  pub seeking-ends : {text rest : List ℕ} {last : Option (List ℕ)}
      → SeekingBrace text last rest → grace_part_at bang rest ≡ None
      → later_or (brace_here rest) last ≡ brace_at bang text
  seeking-ends {text} {rest} {last} stage e = ap (λ r. later_or r last) (sym (brace-none rest e)) ∙ stage.found

  -- ---- its fault
  abbrev slashed : Bool → List ℕ → Bool × List ℕ
  slashed b x = (b, x)

  pub grace-unclosed : (s w r : List ℕ) → two w r ≡ span_all is_in_grace s → length r ≡ 0 →
      GraceFault bang s (record { kind = Unclosed; left = length s + 1 })
  grace-unclosed s w r cut none = rw add-one (grace_unclosed s (none_left is_in_grace s w r cut none))

  has_slash : (slash : Bool) (s t : List ℕ) → slashed slash t ≡ skip 47 s → HasSlash s slash t
  has_slash slash s t at = record { cut = rw (← at) at (skip-takes 47 s); is_read = rw (← at) at (no_slash s) }

  grace_leads : (s t : List ℕ)
      → (walk (grace_part_at bang) s).1 ≡ t → GraceLeads bang s (walk (grace_part_at bang) s).0 t
  grace_leads s t e = rw e at (leads_of_walk part_reader part_local s)

  pub grace-open : (slash : Bool) (s t : List ℕ)
      → slashed slash t ≡ skip 47 s → is_done (walk (grace_part_at bang) t) ≡ true
      → GraceFault bang s (record { kind = Unclosed; left = length s + 1 })
  grace-open slash s t at done =
      rw add-one
      (grace_open s slash t _ (has_slash slash s t at) (grace_leads t [] (nil_from_length _ (eqb-true _ 0 done))))

  -- parts up to a brace are a group
  closed_within : (s rest : List ℕ)
      → (walk (grace_part_at bang) s).1 ≡ 125 ∷ rest → (c : List ℕ) × (brace_at bang s ≡ Some c)
  closed_within s rest =
      let P : List ℕ → Type 0 =
      λ t. (walk (grace_part_at bang) t).1 ≡ 125 ∷ rest → (c : List ℕ) × (brace_at bang t ≡ Some c) in
      by_parts part_reader P
      (λ t e stop. (125 ∷ rest, brace-none t e ∙ ap brace_here (sym (left_none part_reader t e) ∙ stop)))
      (λ t z e next stop.
      let o = next (sym (left_some part_reader t z e) ∙ stop) in (o.0, brace-part t z.1 z.0 e ∙ rw o.1 refl))
      s

  from_some : (slash : Bool) (s t c : List ℕ)
      → slashed slash t ≡ skip 47 s → brace_at bang t ≡ Some c → grace_at bang s ≡ None → ⊥
  unfolding grace_at
  from_some slash s t [] at found none = let k = brace_at-closes t [] found in omega (arith, ap length k.is)
  from_some slash s t (b ∷ c) at found none =
      let some : grace_at bang s ≡ grace_from bang slash t (Some (b ∷ c)) = rw (← at, found) refl in
      let clash = sym none ∙ some in cc

  pub grace-flawed : (slash : Bool) (s t w r : List ℕ) (flaw : Flaw)
      → slashed slash t ≡ skip 47 s → two w r ≡ span_all is_in_grace s
      → (length r ≡ 0 → ⊥) → grace_at bang s ≡ None → is_done (walk (grace_part_at bang) t) ≡ false
      → GraceFlawed bang None t flaw
      → GraceFault bang s flaw
  grace-flawed slash s t w r flaw at cut some none stuck flawed = by_stop (walk (grace_part_at bang) t).1 refl
    where
      no_brace : (b : ℕ) (x : List ℕ) → (walk (grace_part_at bang) t).1 ≡ b ∷ x → b ≡ 125 → ⊥
      no_brace b x e h =
          let found = closed_within t x (e ∙ ap (λ y. y ∷ x) h) in from_some slash s t found.0 at found.1 none

      by_stop : (x : List ℕ) → (walk (grace_part_at bang) t).1 ≡ x → GraceFault bang s flaw
      by_stop [] e = absurd (let clash = sym stuck ∙ ap (λ (y : List ℕ). eqb (length y) 0) e in cc)
      by_stop (b ∷ x) e =
          let whole = some_left is_in_grace s w r cut some in
          let none_there = none_of part_reader (b ∷ x) (ap (grace_part_at bang) (sym e) ∙ stops_at part_reader t) in
          grace_flawed s slash t _ b x flaw whole (has_slash slash s t at) (grace_leads t (b ∷ x) e) none_there
          (ne_eqb b 125 (no_brace b x e)) flawed
