-- Each slot of a voice has a mark: an event, a grace, a bar and a head have one, and a change has one exactly when it
-- changes what is drawn.
use Rattle.std.proofs.Common.{◌≡◌, ◌∙◌, ℕ, zero, suc, ℤ, ◌+◌, ◌*◌, ◌≤◌, Bool, true, false, ◌||◌, ◌==◌, nat_le, List, []}
use Rattle.std.proofs.Common.{◌∷◌, ◌++◌, length, Option, Some, None, is_some, refl, sym, ap, arith}
use Rattle.std.specs.Prelude.{⊤}
use Rattle.std.proofs.lemmas.Bool.Decides.{nat_tests}
use Rattle.mus_units.specs.declared.glyph.Glyph.{Glyph}
use Rattle.mus_units.specs.declared.key.Key.{Key}
use Rattle.mus_units.specs.declared.key.Meter.{Meter}
use Rattle.mus_units.specs.declared.key.Sign.{Sign}
use Rattle.mus_units.specs.declared.note.Bar.{Bar}
use Rattle.mus_units.specs.declared.note.Head.{Head}
use Rattle.mus_units.specs.declared.pitch.Clef.{Clef}
use Rattle.mus_units.specs.declared.value.Base.{Base}
use Rattle.mus_score.specs.declared.score.Changes.{Changes}
use Rattle.mus_score.specs.declared.score.Event.{Event}
use Rattle.mus_score.specs.declared.score.Look.{Look}
use Rattle.mus_stems.specs.declared.plans.StemPlan.{StemPlan}
use Rattle.mus_stems.specs.Stills.{flags_of}
use Rattle.mus_onsets.specs.Keys.{change_has_mark, key_has_mark, meter_has_mark}
use Rattle.mus_onsets.proofs.RankLaws.{false_not_true}
use Rattle.mus_laid.specs.declared.drawn.LaneInk.{LaneInk}
use Rattle.mus_ink.specs.declared.graces.Group.{Group}
use Rattle.mus_ink.specs.Bars.{bar_marks}
use Rattle.mus_ink.specs.Changes.{after_clef, change_marks, clef_if, count_if, head_marks, key_if, new_entries}
use Rattle.mus_ink.specs.Decos.{body_marks, note_marks}
use Rattle.mus_ink.specs.Distances.{entry_gap, entry_step}
use Rattle.mus_ink.specs.Graces.{grace_body, grace_marks}
use Rattle.mus_ink.specs.Kinds.{head_glyph}
use Rattle.mus_ink.specs.Notes.{dot_marks, heads_marks, ledger_marks, note_heads, sign_marks}
use Rattle.mus_ink.specs.Rests.{rest_dots, rest_glyphs, rest_marks, short_rests}
use Rattle.mus_ink.specs.Signatures.{meter_if, meter_marks}
use Rattle.mus_ink.specs.Stems.{stem_marks}
use Rattle.mus_drawn.specs.declared.drawn.DrawnEvent.{DrawnEvent}
use Rattle.mus_slots.specs.declared.slots.Slot.{Slot}
use Rattle.mus_slots.proofs.Parts.{OfSlots}

-- a plan that has the flags of its event, and a shift for each of its heads
pub record IsPlanOf (e : Event) (p : StemPlan) : Type 0 where
  pub flags : p.flags ≡ flags_of e.value.base
  pub shifts : length p.shifts ≡ length e.heads

abbrev has_some : List LaneInk → Bool
has_some [] = false
has_some (x ∷ xs) = true

abbrev pub HasSome : List LaneInk → Type 0
HasSome xs = has_some xs ≡ true

either : (xs ys : List LaneInk) → has_some (xs ++ ys) ≡ (has_some xs || has_some ys)
either [] ys = refl
either (x ∷ xs) ys = refl

pub left : (xs ys : List LaneInk) → HasSome xs → HasSome (xs ++ ys)
left [] ys h = absurd (false_not_true h)
left (x ∷ xs) ys h = refl

right : (xs ys : List LaneInk) → HasSome ys → HasSome (xs ++ ys)
right [] ys h = h
right (x ∷ xs) ys h = refl

-- ---- heads of staves and bars
head_some : (c : Clef) (ss : List Sign) (m : Option Meter) → HasSome (head_marks c ss m)
unfolding head_marks
head_some c ss m = refl

bar_some : (b : Bar) → HasSome (bar_marks b)
unfolding bar_marks
bar_some b = refl

-- ---- changes
clef_has : (c : Option Clef) → has_some (clef_if c) ≡ is_some c
clef_has None = refl
clef_has (Some c) = refl

signs_have : (c : Clef) (first : ℕ) (old ss : List Sign)
    → has_some (new_entries c first old ss) ≡ (nat_le 1 (length old) || nat_le 1 (length ss))
signs_have c first [] [] = refl
signs_have c first (o ∷ old) [] = grind (arith, nat_tests)
signs_have c first old (s ∷ ss) = grind (arith, nat_tests)

key_has : (c : Clef) (first : ℕ) (old : List Sign) (k : Option Key)
    → has_some (key_if c first old k) ≡ key_has_mark (nat_le 1 (length old)) k
key_has c first old None = refl
key_has c first old (Some k) = signs_have c first old k.signs

meter_has : (dx : ℕ) (m : Option Meter) → has_some (meter_if dx m) ≡ meter_has_mark m
unfolding meter_marks
meter_has dx None = refl
meter_has dx (Some Meter.Free) = refl
meter_has dx (Some Meter.Common) = refl
meter_has dx (Some Meter.Cut) = refl
meter_has dx (Some (Meter.Ratio num den)) = refl

change_has : (c : Clef) (old : List Sign) (ch : Changes)
    → has_some (change_marks c old ch) ≡ change_has_mark (nat_le 1 (length old)) ch
unfolding change_marks
change_has c old ch =
    let x = after_clef ch.clef in
    let key = key_if c (x + entry_gap) old ch.key in
    let meter = meter_if (x + entry_step * count_if old ch.key) ch.meter in
    either (clef_if ch.clef ++ key) meter ∙ ap (λ b. b || has_some meter) (either (clef_if ch.clef) key)
    ∙ rw (
      clef_has ch.clef,
      key_has c (x + entry_gap) old ch.key,
      meter_has (x + entry_step * count_if old ch.key) ch.meter,
    ) refl

none_of : (xs : List LaneInk) → has_some xs ≡ false → xs ≡ []
none_of [] e = refl
none_of (x ∷ xs) e = absurd (false_not_true (sym e))

pub no_marks : (c : Clef) (old : List Sign) (ch : Changes)
    → change_has_mark (nat_le 1 (length old)) ch ≡ false → change_marks c old ch ≡ []
no_marks c old ch e = none_of (change_marks c old ch) (change_has c old ch ∙ e)

-- ---- events
shorts_some : (g : Glyph) (top : ℤ) (n : ℕ) → 1 ≤ n → HasSome (short_rests g top 0 n)
shorts_some g top zero h = absurd (omega (arith, h))
shorts_some g top (suc n) h = refl

rest_some : (raise : ℤ) (base : Base) (n : ℕ) → n ≡ flags_of base → HasSome (rest_glyphs raise base n)
rest_some raise Base.Breve n e = refl
rest_some raise Base.Whole n e = refl
rest_some raise Base.Half n e = refl
rest_some raise Base.Quarter n e = refl
rest_some raise Base.Eighth n e = shorts_some _ _ n (omega (arith, e))
rest_some raise Base.N16 n e = shorts_some _ _ n (omega (arith, e))
rest_some raise Base.N32 n e = shorts_some _ _ n (omega (arith, e))
rest_some raise Base.N64 n e = shorts_some _ _ n (omega (arith, e))

look_some : (raise : ℤ) (look : Look) (base : Base) (dots n : ℕ)
    → n ≡ flags_of base → HasSome (rest_marks raise look base dots n)
look_some raise Look.Unseen base dots n e = refl
look_some raise Look.Whole base dots n e = refl
look_some raise Look.Seen base dots n e =
    left (rest_glyphs raise base n) (rest_dots raise 0 dots) (rest_some raise base n e)

heads_some : (c : Clef) (g : Glyph) (h : Head) (hs : List Head) (dxs : List ℤ)
    → length dxs ≡ length (h ∷ hs) → HasSome (note_heads c g (h ∷ hs) dxs)
heads_some c g h hs [] e = absurd (omega (arith, e))
heads_some c g h hs (dx ∷ dxs) e = refl

all_heads_some : (c : Clef) (base : Base) (h : Head) (hs : List Head) (p : StemPlan)
    → length p.shifts ≡ length (h ∷ hs) → HasSome (heads_marks c base (h ∷ hs) p)
unfolding heads_marks
all_heads_some c base h hs p e =
    let g = head_glyph base in let beside = sign_marks c (h ∷ hs) p.signs ++ ledger_marks p.ledgers in
    left (beside ++ note_heads c g (h ∷ hs) p.shifts) (dot_marks p.dots)
    (right beside (note_heads c g (h ∷ hs) p.shifts) (heads_some c g h hs p.shifts e))

body_some : (c : Clef) (raise : ℤ) (hs : List Head) (e : Event) (p : StemPlan) (before after : ℕ)
    → p.flags ≡ flags_of e.value.base → length p.shifts ≡ length hs → HasSome (body_marks c raise hs e p before after)
body_some c raise [] e p before after flags shifts = look_some raise e.look e.value.base e.value.dots p.flags flags
body_some c raise (h ∷ hs) e p before after flags shifts =
    left (heads_marks c e.value.base (h ∷ hs) p) (stem_marks p before after)
    (all_heads_some c e.value.base h hs p shifts)

note_some : (c : Clef) (raise : ℤ) (e : Event) (p : StemPlan) (before after : ℕ)
    → IsPlanOf e p → HasSome (note_marks c raise e p before after)
unfolding note_marks
note_some c raise e p before after plan =
    left (body_marks c raise e.heads e p before after) _
    (body_some c raise e.heads e p before after plan.flags plan.shifts)

-- a grace has a stem
grace_some : (c : Clef) (group : Group) (first : Bool) (g : Event) → HasSome (grace_marks c group first g)
unfolding grace_marks
grace_some c group first g = left _ _ (right (grace_body c g.heads) _ refl)

-- ---- slots
abbrev pub IsFilled : Slot → Type 0
IsFilled s = HasSome s.drawn

abbrev pub IsPlannedEvent : DrawnEvent → Type 0
IsPlannedEvent e = IsPlanOf e.flat.event e.plan

pub slots_filled : (first : ℕ) (lengths : List ℕ) → OfSlots first lengths IsFilled IsPlannedEvent (λ d. ⊤)
slots_filled first lengths = record {
  of_head = λ a d known. head_some d.opening.clef d.opening.key.signs _;
  of_first = λ bar. bar_some bar;
  of_change = λ m e plan marked. change_has e.clef e.old e.flat.event.changes ∙ marked;
  of_grace = λ m tick clef group i g. grace_some clef group (i == 0) g;
  of_note = λ m before after e plan. note_some e.clef _ e.flat.event e.plan before after plan;
  of_bar = λ m d known. bar_some d.bar;
}
