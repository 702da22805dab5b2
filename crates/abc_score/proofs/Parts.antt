-- The parts of a written event as a good voice requires them: numbered, within reach, with words and good changes.
use Rattle.std.proofs.Common.{◌≡◌, refl, sym, subst, ℕ, suc, ◌+◌, ◌≤◌, ◌<◌, List, [], ◌∷◌, ◌++◌, map, length, None}
use Rattle.std.proofs.Common.{IfSome, unwrap_or, arith}
use Rattle.std.proofs.lemmas.List.{length-replicate, Elements.{All-nil, All-cons, All-from_recursion}}
use Rattle.std.specs.{Prelude.{⊤, flat_map}, List.{All, AllByRecursion}}
use Rattle.mus_units.specs.declared.note.Head.{Head}
use Rattle.mus_units.specs.declared.pitch.Clef.{Clef}
use Rattle.mus_units.specs.declared.value.Value.{Value}
use Rattle.mus_units.specs.Good.{IsGoodKey, IsGoodMeter}
use Rattle.mus_score.specs.declared.score.Event.{Event}
use Rattle.mus_score.specs.GoodScore.{IsInReach}
use Rattle.abc_notes.specs.declared.part.GraceChord.{GraceChord}
use Rattle.abc_signs.specs.declared.written.WrittenEvent.{WrittenEvent}
use Rattle.abc_signs.specs.declared.written.Pending.{Pending}
use Rattle.abc_signs.specs.declared.written.TreeItem.{TreeItem}
use Rattle.abc_signs.specs.Signs.{with_tie}
use Rattle.abc_events.specs.Leaves.{Words, first_part, later_part, later_parts, parts, some_more, later_head}
use Rattle.abc_events.specs.Leaves.{grace_event, leaves_from, words_of_event}
use Rattle.abc_score.proofs.Cores.{Core, CoresCount, CoresReach, IsGoodCore, IsSung, Reaches, sung}
use Rattle.abc_score.proofs.Rows.{leaf_rows}
use Rattle.abc_score.specs.Score.{event_count}
use Rattle.abc_score.proofs.Singing.{plain, with_graces, grace_of, nodes_sung, nodes_are_sung}

-- ---- numbers
later_count : (w : WrittenEvent) (verses id from n : ℕ) (vs : List Value) (cs : List Core)
    → id ≡ from → from + length vs ≡ n → CoresCount n cs
    → CoresCount from (map plain (later_parts w verses id vs) ++ cs)
unfolding later_part
later_count w verses id from n [] cs at e h = let same : n ≡ from = omega arith in subst (λ k. CoresCount k cs) same h
later_count w verses id from n (v ∷ vs) cs at e h =
    (at, later_count w verses (id + 1) (suc from) n vs cs (omega arith) (omega arith) h)

parts_count : (gs : List Event) (w : WrittenEvent) (waiting : Pending) (words : Words) (id n : ℕ) (vs : List Value)
    (cs : List Core)
    → id + length vs ≡ n
    → CoresCount n cs → CoresCount id (with_graces gs (parts w waiting words id vs) ++ cs)
unfolding first_part
parts_count gs w waiting words id n [] cs e h = let same : n ≡ id = omega arith in subst (λ k. CoresCount k cs) same h
parts_count gs w waiting words id n (v ∷ vs) cs e h =
    (refl, later_count w (length words) (id + 1) (suc id) n vs cs (omega arith) (omega arith) h)

-- ---- heights
abbrev pub DoReach : Clef → List Head → Type 0
DoReach clef hs = AllByRecursion (IsInReach clef) hs

pub heads_reach : (clef : Clef) (f : Head → Head)
    → ((h : Head) → IsInReach clef h → IsInReach clef (f h)) → (hs : List Head) → DoReach clef hs
    → DoReach clef (map f hs)
heads_reach clef f keeps [] all = tt
heads_reach clef f keeps (h ∷ hs) all = (keeps h all.0, heads_reach clef f keeps hs all.1)

later_reach : (clef : Clef) (w : WrittenEvent) (verses id : ℕ) (vs : List Value) (cs : List Core)
    → DoReach clef w.heads → CoresReach clef cs
    → CoresReach clef (map plain (later_parts w verses id vs) ++ cs)
unfolding later_part
later_reach clef w verses id [] cs all h = h
later_reach clef w verses id (v ∷ vs) cs all h = (
  All-from_recursion (IsInReach clef) _ (heads_reach clef (later_head (some_more vs)) (λ h is. is) w.heads all),
  All-nil (Reaches clef),
  later_reach clef w verses (id + 1) vs cs all h,
)

graces_reach : (clef : Clef) (gs : List GraceChord) → AllByRecursion (λ (g : GraceChord). DoReach clef g.heads) gs
    → All (Reaches clef) (map grace_of gs)
unfolding grace_event
graces_reach clef [] all = All-nil (Reaches clef)
graces_reach clef (g ∷ gs) all =
    All-cons (Reaches clef) (grace_of g) _ (All-from_recursion (IsInReach clef) g.heads all.0)
    (graces_reach clef gs all.1)

-- the clef after the pending changes
abbrev pub clef_of : Pending → Clef → Clef
clef_of waiting before = unwrap_or waiting.changes.clef before

parts_reach : (before : Clef) (gs : List Event) (w : WrittenEvent) (waiting : Pending) (words : Words) (id : ℕ)
    (vs : List Value) (cs : List Core)
    → 1 ≤ length vs → DoReach (clef_of waiting before) w.heads → All (Reaches (clef_of waiting before)) gs
    → CoresReach (clef_of waiting before) cs
    → CoresReach before (with_graces gs (parts w waiting words id vs) ++ cs)
unfolding first_part
parts_reach before gs w waiting words id [] cs some heads graces others = absurd (omega arith)
parts_reach before gs w waiting words id (v ∷ vs) cs some heads graces others = (
  All-from_recursion (IsInReach (clef_of waiting before)) _
      (heads_reach _ (with_tie (some_more vs)) (λ h is. is) w.heads heads),
  graces,
  later_reach _ w (length words) (id + 1) vs cs heads others,
)

-- ---- words and changes
later_good : (w : WrittenEvent) (verses id : ℕ) (vs : List Value) (cs : List Core)
    → AllByRecursion (IsGoodCore verses) cs
    → AllByRecursion (IsGoodCore verses) (map plain (later_parts w verses id vs) ++ cs)
unfolding later_part
later_good w verses id [] cs h = h
later_good w verses id (v ∷ vs) cs h =
    (record { words = length-replicate verses None; key = tt; meter = tt }, later_good w verses (id + 1) vs cs h)

parts_good : (gs : List Event) (w : WrittenEvent) (waiting : Pending) (words : Words) (id : ℕ) (vs : List Value)
    (cs : List Core) (verses : ℕ)
    → length words ≡ verses → IfSome waiting.changes.key IsGoodKey → IfSome waiting.changes.meter IsGoodMeter
    → AllByRecursion (IsGoodCore verses) cs
    → AllByRecursion (IsGoodCore verses) (with_graces gs (parts w waiting words id vs) ++ cs)
unfolding first_part
parts_good gs w waiting words id [] cs verses long key meter h = h
parts_good gs w waiting words id (v ∷ vs) cs verses long key meter h = (
  record { words = long; key = key; meter = meter },
  subst (λ n. AllByRecursion (IsGoodCore verses) (map plain (later_parts w n (id + 1) vs) ++ cs)) (sym long)
      (later_good w verses (id + 1) vs cs h),
)

-- ---- tree items

-- a written event has parts, and its changes are good
abbrev pub IsWhole : TreeItem → Type 0
IsWhole (TreeItem.Event w waiting) =
    (1 ≤ length w.values) × IfSome waiting.changes.key IsGoodKey × IfSome waiting.changes.meter IsGoodMeter
IsWhole (TreeItem.Opens measure p q r) = ⊤

-- heads and graces are within reach, in the clef at their event
abbrev pub SignsReach : Clef → List TreeItem → Type 0
SignsReach before [] = ⊤
SignsReach before (TreeItem.Event w waiting ∷ ss) =
    let clef = clef_of waiting before in
    DoReach clef w.heads × AllByRecursion (λ (g : GraceChord). DoReach clef g.heads) waiting.graces × SignsReach clef ss
SignsReach before (TreeItem.Opens measure p q r ∷ ss) = SignsReach before ss

abbrev pub cores_from : List Words → ℕ → ℕ → List TreeItem → List Core
cores_from words k id ss = flat_map sung (leaf_rows (leaves_from words k id ss))

module _ (words : List Words) where
  pub signs_sung : (k id : ℕ) (ss : List TreeItem)
      → AllByRecursion IsWhole ss → AllByRecursion IsSung (leaf_rows (leaves_from words k id ss))
  signs_sung k id [] all = tt
  signs_sung k id (TreeItem.Event w waiting ∷ ss) all =
      (nodes_are_sung w waiting (words_of_event words k) id all.0.0, signs_sung (k + 1) (id + length w.values) ss all.1)
  signs_sung k id (TreeItem.Opens measure p q r ∷ ss) all = signs_sung k id ss all.1

  pub signs_count : (k id : ℕ) (ss : List TreeItem)
      → AllByRecursion IsWhole ss → CoresCount id (cores_from words k id ss)
  signs_count k id [] all = tt
  signs_count k id (TreeItem.Event w waiting ∷ ss) all =
      let others = cores_from words (k + 1) (id + length w.values) ss in
      subst (λ z. CoresCount id (z ++ others)) (sym (nodes_sung w waiting (words_of_event words k) id all.0.0))
      (parts_count _ w waiting (words_of_event words k) id _ w.values _ refl
      (signs_count (k + 1) (id + length w.values) ss all.1))
  signs_count k id (TreeItem.Opens measure p q r ∷ ss) all = signs_count k id ss all.1

  pub signs_reach : (k id : ℕ) (before : Clef) (ss : List TreeItem) → AllByRecursion IsWhole ss → SignsReach before ss
      → CoresReach before (cores_from words k id ss)
  signs_reach k id before [] all reach = tt
  signs_reach k id before (TreeItem.Event w waiting ∷ ss) all reach =
      let clef = clef_of waiting before in let others = cores_from words (k + 1) (id + length w.values) ss in
      subst (λ z. CoresReach before (z ++ others)) (sym (nodes_sung w waiting (words_of_event words k) id all.0.0))
      (parts_reach before _ w waiting (words_of_event words k) id w.values _ all.0.0 reach.0
      (graces_reach clef waiting.graces reach.1)
      (signs_reach (k + 1) (id + length w.values) clef ss all.1 reach.2))
  signs_reach k id before (TreeItem.Opens measure p q r ∷ ss) all reach = signs_reach k id before ss all.1 reach

  pub signs_good : (verses k id : ℕ) (ss : List TreeItem) → AllByRecursion IsWhole ss
      → ((j : ℕ) → j < k + event_count ss → length (words_of_event words j) ≡ verses)
      → AllByRecursion (IsGoodCore verses) (cores_from words k id ss)
  signs_good verses k id [] all each = tt
  signs_good verses k id (TreeItem.Event w waiting ∷ ss) all each =
      let others = cores_from words (k + 1) (id + length w.values) ss in
      subst (λ z. AllByRecursion (IsGoodCore verses) (z ++ others))
      (sym (nodes_sung w waiting (words_of_event words k) id all.0.0))
      (parts_good _ w waiting (words_of_event words k) id w.values _ verses (each k (omega arith)) all.0.1 all.0.2
      (signs_good verses (k + 1) (id + length w.values) ss all.1 (λ j less. each j (omega (arith, less)))))
  signs_good verses k id (TreeItem.Opens measure p q r ∷ ss) all each = signs_good verses k id ss all.1 each
