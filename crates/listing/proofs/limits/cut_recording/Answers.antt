use Rattle.std.proofs.lemmas.List.{take_min}
use Rattle.listing.specs.Limits.{recording_limit}
use Rattle.listing.proofs.limits.cut_recording.Goals as goal

pub returns : goal.returns
returns c = rw c.min.ensures (take_min recording_limit c.args.bytes.now)
