use Rattle.set_lists.proofs.Entries.{put_all}
use Rattle.set_lists.proofs.listing.put_listing.Goals as goal

pub returns : goal.returns
returns c =
    put_all c.args.outcomes.now c.args.out.now c.put_heading.new.out c.put_outcomes.new.out c.put_end.new.out
    c.in_ok-put_heading.ensures c.in_ok-put_outcomes.ensures c.in_ok-put_end.ensures
