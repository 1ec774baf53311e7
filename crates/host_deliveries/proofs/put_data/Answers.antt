-- `host_deliveries::put_data` meets its contract: the data are copied to the front.
use mathlib.Core.List.{◌++◌}
use mathlib.Core.Path.{◌≡◌, ◌∙◌}
use lib.ListN.{length, take, drop}
use lib.Seq.{take-length}
use Rattle.message.proofs.Buffer.{front}
use Rattle.command.specs.Payload.{data_in}
use Rattle.host_deliveries.proofs.put_data.Goals as goal

pub returns : goal.returns
returns c =
    let a = c.args in
    let d = c.«data» in
    let copied : _ ≡ take (length d.result.now) d.result.now ++ drop (length d.result.now) a.buffer.now =
    c.copy.ensures.whole in
    copied ∙ rw (take-length d.result.now, d.ensures) (front (data_in a.body.now) a.buffer.now)
