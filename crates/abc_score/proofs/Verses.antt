-- The verses that are too many, in a body whose lines of words increase: the head of the list comes first.
use Rattle.std.{proofs.lemmas.Bool.{cond-false, Decides.nat_tests}, specs.Prelude.{⊤, nat_le}}
use Rattle.std.proofs.Common.{◌≡◌, ◌∙◌, refl, sym, ap, subst, ℕ, ◌≤◌, List, [], ◌∷◌, ◌++◌, Bool, true, false, Option}
use Rattle.std.proofs.Common.{Some, None, arith}
use Rattle.{abc_lines.specs.declared.fault.Fault.Fault, abc_steps.specs.declared.step.BodyItem.BodyItem}
use Rattle.abc_faults.specs.First.{is_before, earlier, first_of}
use Rattle.abc_score.proofs.Basics.{either}
use Rattle.abc_score.specs.Order.{DoVersesRise, DoVersesRiseFrom, DoWordsRise, DoWordsRiseFrom}
use Rattle.abc_words.specs.Verses.{verse_if, verses_from, verses_of_voice, number_on, too_many, faults_from}
use Rattle.abc_words.specs.Verses.{verse_faults, first_verse_fault as head_of}
use Rattle.abc_words.specs.declared.verses.Verses.{Verses}
use Rattle.abc_words.specs.declared.verses.Verse.{Verse}

lower : (low high : ℕ) (vs : List Verse) → low ≤ high → DoVersesRiseFrom high vs → DoVersesRiseFrom low vs
lower low high [] less rise = tt
lower low high (v ∷ vs) less rise = let first : high ≤ v.line = rise.0 in (omega arith, rise.1)

with_verse : (current : Bool) (last : Option ℕ) (text : List ℕ) (low line : ℕ) (vs : List Verse)
    → low ≤ line → DoVersesRiseFrom line vs
    → DoVersesRiseFrom low (verse_if current last text line ++ vs)
with_verse true (Some row) text low line vs less rise = (less, rise)
with_verse true None text low line vs less rise = lower low line vs less rise
with_verse false last text low line vs less rise = lower low line vs less rise

rise_from : (id unnamed : List ℕ) (before following : List BodyItem) (low : ℕ) → DoWordsRiseFrom low following
    → DoVersesRiseFrom low (verses_from id unnamed before following)
rise_from id unnamed before [] low rise = tt
rise_from id unnamed before (BodyItem.Words text line ∷ following) low rise =
    with_verse _ _ text low line _ rise.0
    (rise_from id unnamed (BodyItem.Words text line ∷ before) following line rise.1)
rise_from id unnamed before (item ∷ following) low rise = rise_from id unnamed (item ∷ before) following low rise

pub verses_rise : (id unnamed : List ℕ) (items : List BodyItem)
    → DoWordsRise items → DoVersesRise (verses_of_voice id unnamed items)
verses_rise id unnamed items rise = rise_from id unnamed [] items 0 rise

-- faults of verses from a line on: none of them, or the head of the list, comes before one on that line
abbrev IsFrom : ℕ → Option Fault → Type 0
IsFrom low None = ⊤
IsFrom low (Some f) = (low ≤ f.line) × (f ≡ too_many f.line)

not_earlier : (line other : ℕ) → line ≤ other → is_before (too_many other) (too_many line) ≡ false
unfolding is_before
not_earlier line other less = grind (arith, nat_tests)

-- the head of such a list is its first
head_first : (line : ℕ) (o : Option Fault) → IsFrom line o → earlier (Some (too_many line)) o ≡ Some (too_many line)
head_first line None from = refl
head_first line (Some f) from =
    cond-false _ _ _ (ap (λ g. is_before g (too_many line)) from.1 ∙ not_earlier line f.line from.0)

higher : (low high : ℕ) (o : Option Fault) → low ≤ high → IsFrom high o → IsFrom low o
higher low high None less from = tt
higher low high (Some f) less from = let at : high ≤ f.line = from.0 in (omega arith, from.1)

-- the heads and the first faults of what follows
heads : (low : ℕ) (before following : List Verse) → DoVersesRiseFrom low following
    → let faults = faults_from before following in (head_of faults ≡ first_of faults) × IsFrom low (head_of faults)
heads low before [] rise = (refl, tt)
heads low before (v ∷ following) rise =
    let others = heads v.line (before ++ v ∷ []) following rise.1 in
    let more = faults_from (before ++ v ∷ []) following in
    either (λ fs. (head_of (fs ++ more) ≡ first_of (fs ++ more)) × IsFrom low (head_of (fs ++ more)))
    (nat_le 8 (number_on v.row before)) (too_many v.line ∷ []) []
    (sym (head_first v.line (first_of more) (subst (IsFrom v.line) others.0 others.1)), (rise.0, refl))
    (others.0, higher low v.line _ rise.0 others.1)

pub verse_first : (v : Verses) → DoVersesRise v → head_of (verse_faults v) ≡ first_of (verse_faults v)
verse_first v rise = let both = heads 0 [] v.list rise in both.0
