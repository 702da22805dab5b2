-- Each definition of what is read is exactly its relation.
use Rattle.std.proofs.Common.{◌≡◌, refl, sym, subst, ℕ, List, []}
use Rattle.abc_field.proofs.FieldForms.{line-says, line-read, line-bad, line-refused, named-says, named-read, named-bad}
use Rattle.abc_field.proofs.FieldForms.{named-refused}
use Rattle.abc_fields.specs.FileHeader.{AreDefaultsBy, IsPaperBy}
use Rattle.abc_fields.proofs.FaultLaws.{header-clear, header-first, header-first-is, header-none}
use Rattle.abc_fields.proofs.FileHeaderLaws.{defaults-are, defaults-one, paper-is, paper-one}
use Rattle.abc_steps.specs.Written.{IsStateAsWritten}
use Rattle.mus_lyric.specs.declared.singing.NoteAt.{NoteAt}
use Rattle.mus_lyric.specs.declared.singing.Sung.{Sung}
use Rattle.mus_lyric.specs.declared.syllable.Syl.{Syl}
use Rattle.mus_lyric.specs.Characters.{characters}
use Rattle.mus_lyric.specs.Singing.{AreSungOn, first_measure, sung_from, sung_on}
use Rattle.mus_lyric.specs.Syllables.{AreSyllablesOf, after_run, syllables_of}
use Rattle.mus_lyric.proofs.SingingLaws.{is_sung, is_one as one_sung}
use Rattle.mus_lyric.proofs.SyllableLaws.{is_spelt, is_one as one_spelt}
use Rattle.law_one_outcome.specs.Said.{Exactly, IsReadAsSaid}
use Rattle.abc_fields.proofs.SaidHeaders.{header_is, header_says}
use Rattle.law_one_outcome.proofs.Parts.{parts_found, parts_taken}

exact_syllables : (words : List ℕ) (syls : List Syl) → Exactly (syls ≡ syllables_of words) (AreSyllablesOf words syls)
unfolding syllables_of
exact_syllables words syls = (is_spelt words syls, one_spelt words (after_run [] (characters words)) refl syls)

exact_sung : (notes : List NoteAt) (syls : List Syl) (sung : List Sung)
    → Exactly (sung ≡ sung_on notes syls) (AreSungOn notes syls sung)
unfolding sung_on
exact_sung notes syls sung =
    (is_sung notes syls sung, one_sung notes syls (sung_from syls (first_measure notes) notes) refl sung)

pub read_as_said : IsStateAsWritten → IsReadAsSaid
read_as_said state = record {
  field = λ line field. (line-says line field, line-read line field);
  named = λ letter text field. (named-says letter text field, named-read letter text field);
  bad = λ line kind. (line-bad line kind, line-refused line kind);
  named_bad = λ letter text kind. (named-bad letter text kind, named-refused letter text kind);
  fault = λ tune fault. (header-first-is tune fault, header-first tune fault);
  clear = λ tune. (header-clear tune, header-none tune);
  values = λ tune defaults header. (header_says tune defaults header, header_is tune defaults header);
  parts = λ num den values some whole. (parts_found num den values some, parts_taken num den values whole);
  defaults =
      λ lines defaults.
      (λ is. subst (AreDefaultsBy lines) (sym is) (defaults-are lines), defaults-one lines defaults);
  paper = λ lines paper. (λ is. subst (IsPaperBy lines) (sym is) (paper-is lines), paper-one lines paper);
  syllables = exact_syllables;
  sung = exact_sung;
  state = state;
}
