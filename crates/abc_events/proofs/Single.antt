-- The nodes of a written event with one part, and with several.
use Rattle.std.proofs.Common.{◌≡◌, ◌∙◌, ap, ℕ, ◌+◌, ◌-◌, ◌≤◌, ◌<◌, List, [], ◌∷◌, ◌++◌, map, length, take, drop}
use Rattle.std.proofs.Common.{slice_index_or, Bool, false, arith, append_assoc}
use Rattle.std.proofs.lemmas.List.{take_all}
use Rattle.mus_units.specs.declared.value.Value.{Value}
use Rattle.mus_score.specs.declared.score.Music.{Music}
use Rattle.abc_signs.specs.declared.written.WrittenEvent.{WrittenEvent}
use Rattle.abc_signs.specs.declared.written.Pending.{Pending}
use Rattle.abc_events.specs.Leaves.{Words, first_part, later_parts, parts, node_of, some_more}

pub one_node : (w : WrittenEvent) (waiting : Pending) (words : Words) (id : ℕ) (values : List Value) (none : Value)
    → values ≡ w.values → 1 ≤ length values → length values < 2
    → node_of (first_part w waiting words id false (slice_index_or values 0 none)) ∷ []
    ≡ map node_of (parts w waiting words id w.values)
one_node w waiting words id [] none e some few = absurd (omega arith)
one_node w waiting words id (v ∷ []) none e some few = ap (λ vs. map node_of (parts w waiting words id vs)) e
one_node w waiting words id (v ∷ u ∷ vs) none e some few = absurd (omega arith)

pub several_nodes : (w : WrittenEvent) (waiting : Pending) (words : Words) (id verses : ℕ) (values : List Value)
    (none : Value) (more : Bool) (nodes nodes' nodes'' : List Music)
    → values ≡ w.values → 1 ≤ length values
    → more ≡ some_more (take (length values - 1) (drop 1 values))
    → verses ≡ length words
    → nodes' ≡ nodes ++ node_of (first_part w waiting words id more (slice_index_or values 0 none)) ∷ []
    → nodes'' ≡ nodes' ++ map node_of (later_parts w verses (id + 1) (take (length values - 1) (drop 1 values)))
    → nodes'' ≡ nodes ++ map node_of (parts w waiting words id w.values)
several_nodes w waiting words id verses [] none more nodes nodes' nodes'' e some has long put later =
    absurd (omega arith)
several_nodes w waiting words id verses (v ∷ vs) none more nodes nodes' nodes'' e some has long put later =
    let others : take (length (v ∷ vs) - 1) vs ≡ vs = take_all (length (v ∷ vs) - 1) vs (omega arith) in
    let first = node_of (first_part w waiting words id (some_more vs) v) in
    let put_first : nodes' ≡ nodes ++ first ∷ [] = rw (← others, ← has) put in
    let put_later : nodes'' ≡ nodes' ++ map node_of (later_parts w (length words) (id + 1) vs) =
    rw (← long, ← others) later in
    put_later ∙ (rw put_first (append_assoc nodes (first ∷ []) (map node_of (later_parts w (length words) (id + 1) vs)))
    ∙ ap (λ us. nodes ++ map node_of (parts w waiting words id us)) e)
