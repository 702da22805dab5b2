-- The outcome of a tune with the places of its blocks may move to another thread, too.
use denote.Param.Send.{IsSend, sendable}
use denote.Param.SendFields.{declared_send}
use Rattle.set_book.proofs.Sent.{outcome_send, row, row_send}
use Rattle.set_pages.specs.contracts.builder.PlacedOutcome as PlacedOutcome

pub placed_send : IsSend PlacedOutcome.the_row
placed_send = declared_send PlacedOutcome.the_type (search (sendable, row, row_send, outcome_send) depth 100)
