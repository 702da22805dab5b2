-- Storage for what is pending for an event.
use Rattle.abc_signs.specs.declared.written.PendingStore.{PendingStore}
use Rattle.abc_signs.specs.declared.written.Pending.{Pending}
use Rattle.abc_signs.specs.Waits.{nothing_pending}

abbrev pub stored_pending : PendingStore → Pending
stored_pending PendingStore.Nothing = nothing_pending
stored_pending (PendingStore.Some waiting) = waiting.value
