-- Events without words have none at any place, so a staff of such events has its marks alone.
use Rattle.std.proofs.Common.{◌≡◌, ◌∙◌, ℕ, ℤ, ◌+◌, Bool, true, false, not, ◌&&◌, ◌==◌, List, [], ◌∷◌, ◌++◌, length}
use Rattle.std.proofs.Common.{Option, Some, None, is_none, refl, ap, arith}
use Rattle.std.proofs.lemmas.Bool.{and_parts}
use Rattle.std.specs.List.{AllByRecursion, flat_map, list_all, slice_range}
use Rattle.mus_units.specs.declared.note.Deco.{Deco}
use Rattle.mus_score.specs.declared.score.Flat.{Flat}
use Rattle.mus_score.specs.declared.score.Mention.{Mention}
use Rattle.mus_words.specs.Syllables.{syllables_from}
use Rattle.mus_words.specs.Texts.{above_from, below_from, shown_deco, shown_ending, shown_mention, shown_number}
use Rattle.mus_words.specs.Texts.{texts_above, texts_below}
use Rattle.mus_drawn.specs.declared.drawn.{DrawnEvent.DrawnEvent, DrawnMeasure.DrawnMeasure, DrawnVoice.DrawnVoice}
use Rattle.mus_slots.specs.Voice.{slots_of_voices, written_of}
use Rattle.mus_slots.proofs.Parts.{OfSlots, columns_all}
use Rattle.mus_slots.proofs.Words.{AreBlank, IsBlank, nothing_blank}
use Rattle.mus_marks.specs.Silent.{are_silent, is_silent, is_silent_staff, is_text}

deco_silent : (below : Bool) (d : Deco) → not (is_text d) ≡ true → shown_deco below d ≡ []
deco_silent false (Deco.Above t) e = grind (arith, e)
deco_silent true (Deco.Below t) e = grind (arith, e)
deco_silent _ _ e = refl

decos_silent : (below : Bool) (ds : List Deco)
    → list_all (λ d. not (is_text d)) ds ≡ true → flat_map (shown_deco below) ds ≡ []
decos_silent below [] e = refl
decos_silent below (d ∷ ds) e =
    let parts = and_parts (not (is_text d)) (list_all (λ x. not (is_text x)) ds) e in
    ap (λ t. t ++ flat_map (shown_deco below) ds) (deco_silent below d parts.0) ∙ decos_silent below ds parts.1

syllables_silent : (low : ℤ) (n : ℕ) (ws : List (Option (List ℕ)))
    → list_all is_none ws ≡ true → syllables_from low n ws ≡ []
syllables_silent low n [] e = refl
syllables_silent low n (None ∷ ws) e = syllables_silent low (n + 1) ws e
syllables_silent low n (Some t ∷ ws) e = grind (arith, e)

texts_silent : (words : List (Option (List ℕ))) (decos : List Deco) (ending : Option (List ℕ)) (tuplets : List ℕ)
    (mentions : List Mention)
    → (is_none ending
    && length tuplets == 0
    && length mentions == 0
    && list_all is_none words
    && list_all (λ d. not (is_text d)) decos)
    ≡ true
    → (list_all is_none words ≡ true)
    × (shown_ending ending ++ flat_map shown_number tuplets ++ flat_map (shown_deco false) decos
    ++ flat_map (shown_mention false) mentions
    ≡ [])
    × (flat_map (shown_deco true) decos ++ flat_map (shown_mention true) mentions ≡ [])
texts_silent words decos None [] [] e =
    let parts = and_parts (list_all is_none words) (list_all (λ d. not (is_text d)) decos) e in (
      parts.0,
      ap (λ t. t ++ []) (decos_silent false decos parts.1),
      ap (λ t. t ++ []) (decos_silent true decos parts.1),
    )
texts_silent words decos None [] (m ∷ ms) e = grind (arith, e)
texts_silent words decos None (t ∷ ts) ms e = grind (arith, e)
texts_silent words decos (Some t) ts ms e = grind (arith, e)

module _ (f : Flat) (silent : is_silent f ≡ true) where
  pub written_blank : (first : ℕ) → IsBlank (written_of first f)
  unfolding texts_above texts_below
  written_blank first =
      let none = texts_silent f.event.words f.event.decos f.event.ending f.tuplets f.event.mentions silent in
      record {
        marks = λ at.
            ap (λ t.
            t
            ++ (above_from at.high at.above (texts_above f)
            ++ below_from at.low at.verses at.below (texts_below f)))
            (syllables_silent at.low first f.event.words none.0)
            ∙ ap (λ t. above_from at.high at.above t ++ below_from at.low at.verses at.below (texts_below f)) none.1
            ∙ ap (below_from at.low at.verses at.below) none.2;
        above = ap length none.1;
        below = ap length none.2;
      }

-- ---- a silent staff
abbrev IsSilent : DrawnEvent → Type 0
IsSilent e = is_silent e.flat ≡ true

slots_blank : (first : ℕ) (lengths : List ℕ)
    → OfSlots first lengths (λ s. IsBlank s.written) IsSilent (λ d. Unit {0})
slots_blank first lengths = record {
  of_head = λ a d known. nothing_blank;
  of_first = λ bar. nothing_blank;
  of_change = λ m e silent marked. nothing_blank;
  of_grace = λ m tick clef group i g. nothing_blank;
  of_note = λ m before after e silent. written_blank e.flat silent first;
  of_bar = λ m d known. nothing_blank;
}

events_silent : (es : List DrawnEvent) → list_all (λ e. is_silent e.flat) es ≡ true → AllByRecursion IsSilent es
events_silent [] silent = tt
events_silent (e ∷ es) silent =
    let parts = and_parts (is_silent e.flat) (list_all (λ x. is_silent x.flat) es) silent in
    (parts.0, events_silent es parts.1)

measures_silent : (ds : List DrawnMeasure)
    → are_silent ds ≡ true → AllByRecursion (λ d. Unit {0} × AllByRecursion IsSilent d.events) ds
measures_silent [] silent = tt
measures_silent (d ∷ ds) silent =
    let parts = and_parts (list_all (λ e. is_silent e.flat) d.events) (are_silent ds) silent in
    ((tt, events_silent d.events parts.0), measures_silent ds parts.1)

pub staff_blank : (first : ℕ) (lengths : List ℕ) (a b : ℕ) (vs : List DrawnVoice)
    → is_silent_staff a b vs ≡ true → AllByRecursion (λ v. AreBlank v.slots) (slots_of_voices first lengths a b vs)
staff_blank first lengths a b [] silent = tt
staff_blank first lengths a b (v ∷ vs) silent =
    let parts = and_parts (are_silent (slice_range v.measures a b)) (is_silent_staff a b vs) silent in (
      columns_all first lengths (λ s. IsBlank s.written) IsSilent (λ d. Unit {0}) (slots_blank first lengths) a v.seat
          v.first (slice_range v.measures a b) (measures_silent (slice_range v.measures a b) parts.0),
      staff_blank (first + v.verses) lengths a b vs parts.1,
    )
