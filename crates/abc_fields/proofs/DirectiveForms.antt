-- A line is read as a directive with a name and a text exactly when it is written as one.
use Rattle.std.proofs.Common.{◌≡◌, refl, sym, ap, ◌∙◌, subst, ℕ, zero, suc, ◌-◌, List, [], ◌∷◌, ◌++◌, Bool, true}
use Rattle.std.proofs.Common.{length, take, drop}
use Rattle.std.proofs.lemmas.Bool.{and_parts, cond_both, eqb-true, not-true, not-false, not_from_true}
use Rattle.std.proofs.lemmas.List.{take-append-drop}
use Rattle.std.proofs.lemmas.List.Sums.{suffix_len-le-length}
use Rattle.std.proofs.lemmas.Slice.Eq.{bytes_eq-Decides}
use Rattle.std.proofs.Math.Seq.{take-append_seam, drop-append_seam}
use Rattle.std.specs.Prelude.{⊤, not, reverse, codes, IfSome, Some}
use Rattle.std.specs.List.{list_all, prefix_len, suffix_len}
use Rattle.std.specs.Str.{bytes_eq}
use Rattle.abc_lines.specs.declared.kind.LineKind.{LineKind}
use Rattle.abc_lines.specs.Kinds.{is_blank, is_percent_line, is_field, kind_of, after_blanks, field_text}
use Rattle.abc_field.specs.Directives.{name_len, name_of, rest_of}
use Rattle.abc_field.specs.Words.{is_empty, trimmed}
use Rattle.abc_field.specs.WordSpelling.{EndsWord, IsFirstWord}
use Rattle.abc_field.proofs.BlankLaws.{Stops, prefix-stops, leading-stops, leading-passes, blanks-passed, cut-reversed}
use Rattle.abc_field.proofs.BlankLaws.{bare-trimmed, trimmed-between}
use Rattle.abc_field.proofs.{ReadLaws.byte_case, WordLaws.{BeginsWord, following-begins}}
use Rattle.abc_fields.specs.Defaults.{rest_if, said_by}
use Rattle.abc_fields.specs.DirectiveSpelling.{Lead, percents, instruction, lead_spelled, BeginsBare, HasBareEnds}
use Rattle.abc_fields.specs.DirectiveSpelling.{IsDirective}

-- Trimming removes exactly the blanks around a text that has none at its own ends.
bare-stops : (s : List ℕ) → BeginsBare s → Stops is_blank s
bare-stops [] bare = tt
bare-stops (b ∷ s) bare = not-true (is_blank b) bare

word-bare : (s : List ℕ) → BeginsWord s → BeginsBare s
word-bare [] begins = tt
word-bare (b ∷ s) begins = rw begins refl

pub word-stays : (s : List ℕ) → BeginsWord s → after_blanks s ≡ s
word-stays [] begins = refl
word-stays (b ∷ s) begins = rw begins refl

-- A trimmed text has no blank at its ends.
start-kept : (n : ℕ) (s : List ℕ) → BeginsWord s → BeginsBare (take n s)
start-kept zero s begins = tt
start-kept (suc n) [] begins = tt
start-kept (suc n) (b ∷ s) begins = word-bare (b ∷ s) begins

trimmed-bare : (text : List ℕ) → HasBareEnds (trimmed text)
unfolding trimmed
trimmed-bare text =
    let s : List ℕ = after_blanks text in
    let ended = (cut-reversed (suffix_len is_blank s) s (suffix_len-le-length is_blank s)).1 in
    let begins = word-bare (after_blanks (reverse s)) (following-begins (reverse s)) in
    (start-kept (length s - suffix_len is_blank s) s (following-begins text), subst BeginsBare ended begins)

-- How a line begins, by its kind: the lead of a directive, or a letter and a colon.
pub record IsLed (line : List ℕ) : Type 0 where
  pub lead : Lead
  pub text : List ℕ
  pub led : line ≡ lead_spelled lead ++ text

pub record HasLetter (letter : ℕ) (line : List ℕ) : Type 0 where
  pub rest : List ℕ
  pub cut : line ≡ letter ∷ codes ":" ++ rest

abbrev pub Begins : List ℕ → LineKind → Type 0
Begins line LineKind.Directive = IsLed line
Begins line (LineKind.Field letter) = HasLetter letter line
Begins line LineKind.Music = ⊤

abbrev pair : ℕ → ℕ → List ℕ → List ℕ
pair a b s = a ∷ b ∷ s

pub kind-begins : (line : List ℕ) → Begins line (kind_of line)
kind-begins [] = tt
kind-begins (a ∷ []) = tt
kind-begins (a ∷ b ∷ s) =
    cond_both (is_percent_line (a ∷ b ∷ s)) _ _ (Begins (a ∷ b ∷ s))
    (λ e. let parts = and_parts _ _ e in
    record {
      lead = percents;
      text = s;
      led = ap (λ x. pair x b s) (eqb-true a 37 parts.0) ∙ ap (λ x. pair 37 x s) (eqb-true b 37 parts.1);
    })
    (λ _. cond_both (is_field (a ∷ b ∷ s)) _ _ (Begins (a ∷ b ∷ s))
    (λ e.
    let colon = ap (λ x. pair a x s) (eqb-true b 58 (and_parts _ _ (and_parts _ _ e).0).1) in
    byte_case (Begins (a ∷ b ∷ s)) a 73 _ _
    (λ is. record { lead = instruction; text = s; led = colon ∙ ap (λ x. pair x 58 s) is })
    (λ _. record { rest = s; cut = colon }))
    (λ _. tt))

lead-kind : (lead : Lead) (text : List ℕ) → kind_of (lead_spelled lead ++ text) ≡ LineKind.Directive
lead-kind percents text = refl
lead-kind instruction text = refl

lead-text : (lead : Lead) (text : List ℕ) → field_text (lead_spelled lead ++ text) ≡ after_blanks text
lead-text percents text = refl
lead-text instruction text = refl

-- The name of a directive, and its text.
abbrev unblank : ℕ → Bool
unblank b = not (is_blank b)

name-stops : (s : List ℕ) → EndsWord s → Stops unblank s
name-stops [] parts = tt
name-stops (b ∷ s) parts = not_from_true (is_blank b) parts

stops-parts : (s : List ℕ) → Stops unblank s → EndsWord s
stops-parts [] stops = tt
stops-parts (b ∷ s) stops = not-false (is_blank b) stops

-- the text without its leading blanks, from its first word on
word-found : (text name after : List ℕ) → IsFirstWord text name after → after_blanks text ≡ name ++ after
word-found text name after first =
    ap after_blanks first.cut
    ∙ blanks-passed first.blanks (name ++ after) first.blank
    ∙ begun name first.some first.whole
  where
    begun : (name : List ℕ)
        → not (is_empty name) ≡ true → list_all unblank name ≡ true → after_blanks (name ++ after) ≡ name ++ after
    begun [] some whole = cc
    begun (b ∷ name) some whole = word-stays (b ∷ (name ++ after)) (not-true (is_blank b) (and_parts _ _ whole).0)

-- a directive with that name is read as one
pub directive-read : (line name says : List ℕ) → IsDirective line name says → said_by name line ≡ Some says
unfolding said_by name_of rest_of
directive-read line name says is =
    let word = is.named in
    let size : name_len (name ++ is.after) ≡ length name =
    prefix-stops unblank name is.after word.whole (name-stops is.after word.parted) in
    let same : bytes_eq name name ≡ true = (bytes_eq-Decides name name).1 refl in
    let left =
    bare-trimmed is.after says (bare-stops says is.bare.0) (bare-stops (reverse says) is.bare.1) is.between in
    rw (is.led, lead-kind is.lead is.text, lead-text is.lead is.text, word-found is.text name is.after word)
    (rw size (rw (take-append_seam name is.after, same, drop-append_seam name is.after, left) refl))

-- and a line read as one is a directive with that name, which has a byte
kind-takes : (line name : List ℕ) (kind : LineKind) → not (is_empty name) ≡ true → Begins line kind
    → IfSome (rest_if name line kind) (IsDirective line name)
unfolding name_of rest_of
kind-takes line name LineKind.Directive some led =
    let text : List ℕ = field_text line in
    let after : List ℕ = drop (name_len text) text in
    let start : List ℕ = take (prefix_len is_blank led.text) led.text in
    let found : text ≡ after_blanks led.text = ap field_text led.led ∙ lead-text led.lead led.text in
    cond_both (bytes_eq (take (name_len text) text) name) _ _ (λ o. IfSome o (IsDirective line name))
    (λ e.
    let same : take (name_len text) text ≡ name = (bytes_eq-Decides (take (name_len text) text) name).0 e in
    let cut : text ≡ name ++ after = sym (take-append-drop (name_len text) text) ∙ ap (λ w. w ++ after) same in
    record {
      lead = led.lead;
      text = led.text;
      after = after;
      led = led.led;
      named = record {
        blanks = start;
        blank = leading-passes is_blank led.text;
        some = some;
        whole = subst (λ w. list_all unblank w ≡ true) same (leading-passes unblank text);
        parted = stops-parts after (leading-stops unblank text);
        cut = sym (take-append-drop (prefix_len is_blank led.text) led.text) ∙ ap (λ t. start ++ t) (sym found ∙ cut);
      };
      between = trimmed-between after;
      bare = trimmed-bare after;
    })
    (λ _. tt)
kind-takes line name _ some begins = tt

pub directive-takes : (line name : List ℕ)
    → not (is_empty name) ≡ true → IfSome (said_by name line) (IsDirective line name)
unfolding said_by
directive-takes line name some = kind-takes line name (kind_of line) some (kind-begins line)
