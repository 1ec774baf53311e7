-- `host_receiving::accept` meets its contract: by what the line decided.
use mathlib.Core.Path.{refl, ap, ◌∙◌}
use native.Mathlib.Omega.{arith}
use Rattle.std.specs.Prelude.{Some}
use Rattle.host_receiving.proofs.Deciding.{short_payload, on_more, on_plain, on_message_law}
use Rattle.host_receiving.proofs.accept.Goals as goal

pub deliver-verdict-requires : goal.deliver-verdict-requires
deliver-verdict-requires c =
    let d = c.decide_in-decision in
    let a = c.args in (
      omega arith,
      short_payload d.result a.accepted.e.held a.bytes.now a.store.now d.new.store d.ensures,
    )

pub returns-in_default : goal.returns-in_default
returns-in_default c =
    let v = c.only in
    let d = c.decide_in-decision in
    let a = c.args in
    let e = a.accepted.e in
    on_more e d.result v.result a.accepted.clock 0 c.act.result a.bytes.now a.store.now d.new.store
    c.act.new.store a.reply.now a.buffer.now d.ensures c.act.ensures refl c.in_default.is
    (record { word = v.ensures.0; change = v.ensures.1; seen = v.ensures.2 })

pub returns-in_default-item : goal.returns-in_default-item
returns-in_default-item c =
    let v = c.only-plain in
    let put = c.put_reply-replied in
    let d = c.decide_in-decision in
    let a = c.args in
    let e = a.accepted.e in
    on_plain e d.result v.result a.accepted.clock put.result c.act-in_default-item.result a.bytes.now a.store.now
    d.new.store c.act-in_default-item.new.store a.reply.now a.buffer.now d.ensures c.act-in_default-item.ensures c.in-Some.item
    put.new.reply c.in-Some.is c.in_default-item.not-Message
    (record { word = v.ensures.0; change = v.ensures.1; seen = v.ensures.2 }) put.ensures

pub returns : goal.returns
returns c =
    let v = c.deliver-verdict in
    let put = c.put_reply-replied in
    let d = c.decide_in-decision in
    let a = c.args in
    let e = a.accepted.e in
    on_message_law e d.result v.result a.accepted.clock put.result c.act-2.result a.bytes.now a.store.now
    d.new.store c.act-2.new.store a.reply.now a.buffer.now d.ensures c.act-2.ensures c.in-Message.kind
    c.in-Message.len c.in-Message.seq put.new.reply v.new.buffer (c.in-Some.is ∙ ap Some c.in-Message.is)
    (rw c.in-Message.is at put.ensures) v.ensures.0 v.ensures.1
