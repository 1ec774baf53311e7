-- `client::exchange` meets its contract, by what its parts do and by the contract of open.
use Rattle.client.proofs.TwoRequests.{exchanges}
use Rattle.client.proofs.exchange.Goals as goal

pub returns : goal.returns
returns c =
    let opened = c.open-opened.ensures in
    let asked = c.ask-asked.ensures in
    let heard = c.hear-heard.ensures in
    let again = c.ask-asked_again.ensures in
    let over = c.give_up-over.ensures in
    exchanges _ _ _ _ _ _ _ _ _ _ _ _ _ opened.promise opened.list _ _ _ asked _ _ _ _ heard _ _ _ again _ _ _ over
