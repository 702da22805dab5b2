-- How the checker stores what the lines so far have said.
use Rattle.std.specs.Prelude.{◌≡◌, ℕ, ◌+◌, ◌≤◌, List, [], length, None, slice_index_or}
use Rattle.lay_breaks.specs.Breaking.{IsLegal, last_from, sum_from, IsPotential}
use Rattle.lay_breaks.specs.Spans.{AreSpans, listed}
use Rattle.lay_cert.specs.Indexed.{IsIndexed}
use Rattle.lay_cert.specs.Listing.{Entry, none_forced}
use Rattle.lay_cert.specs.ReaderStates.{last_tune_from, last_span_from}
use Rattle.lay_cert.specs.Verdicts.{AreVerdicts, IsVerdict}
use Rattle.lay_cert.specs.declared.check.Judged.{Judged}
use Rattle.lay_cert.specs.declared.state.Choosing.{Choosing}
use Rattle.lay_cert.specs.declared.state.Proving.{Proving}
use Rattle.lay_cert.specs.declared.state.ListingState.{ListingState}
use Rattle.lay_cert.specs.ReaderStates as place

-- the entry up to the spans and breaks that were read
abbrev pub entry_so_far : Choosing → Entry
entry_so_far c = record { tune = c.tune; bars = c.bars; spans = c.spans; breaks = c.breaks; total = 0; potentials = [] }

pub record IsChoosing (c : Choosing) : Type 0 where
  pub few : c.bars ≤ 4000
  pub spans : AreSpans c.bars c.spans
  pub last : c.last ≡ last_span_from None c.spans
  pub one_each : length c.firsts.items ≡ c.bars + 1
  pub indexed : IsIndexed c.spans c.firsts.items
  pub at : c.at ≡ last_from 0 c.breaks
  pub choice : IsLegal (listed c.spans) none_forced c.breaks (last_from 0 c.breaks)
  pub total : c.total ≡ sum_from (listed c.spans) 0 c.breaks

-- the same with its total
abbrev pub entry_with_total : Choosing → Entry
entry_with_total c =
    record { tune = c.tune; bars = c.bars; spans = c.spans; breaks = c.breaks; total = c.total; potentials = [] }

pub record IsGoodProving (v : Proving) : Type 0 where
  pub few : v.bars ≤ 4000
  pub some_left : v.next ≤ v.bars
  pub one_each : length v.potentials ≡ v.bars + 1

-- the potentials, recomputed from the spans, and the verdict
pub record Proves (v : Proving) (e : Entry) : Type 0 where
  pub kept : IsGoodProving v
  pub tune : v.tune ≡ e.tune
  pub bars : v.bars ≡ e.bars
  pub next : v.next ≡ length e.potentials
  pub verdict : IsVerdict e v.verdict
  pub potentials : (i : ℕ)
      → i ≤ e.bars → IsPotential (listed e.spans) none_forced i (slice_index_or v.potentials i None)

abbrev pub IsSound : ListingState → Type 0
IsSound (ListingState.Choosing c) = IsChoosing c
IsSound (ListingState.Proving v) = IsGoodProving v
IsSound s = Unit {0}

-- the checker's state, with the verdicts so far, represents the reader state
abbrev pub Represents : ListingState → List Judged → place.ReaderState → Type 0
Represents ListingState.Begun js place.begun = js ≡ []
Represents (ListingState.Between last) js (place.between es) = (last ≡ last_tune_from 0 es) × AreVerdicts es js
Represents (ListingState.Choosing c) js (place.choosing es e) = AreVerdicts es js × IsChoosing c × (e ≡ entry_so_far c)
Represents (ListingState.Proving v) js (place.proving es e) = AreVerdicts es js × Proves v e
Represents ListingState.Ended js (place.ended es) = AreVerdicts es js
Represents s js p = ⊥
