use Rattle.rule_plan.proofs.SendRight.{clash_none, owned, elsewhere_none, waits_none, no_port_none}
use Rattle.rule_plan.proofs.sending.send.Goals as goal

pub sendable-requires : goal.sendable-requires
sendable-requires c =
    let all = rw c.chain-chain.ensures.nodes at c.in_ok-stores.ensures in
    record { solved = rw (c.new-solved.ensures, c.as_slice.ensures.value) all.form; send = tt }

pub send_to-requires : goal.send_to-requires
send_to-requires c =
    let k = rw (c.in-Consistent.is, c.chain-chain.ensures.nodes, c.chain-chain.ensures.stores, c.requires.program) at c.in_ok-consistent.ensures in
    let all = rw (c.chain-chain.ensures.nodes, c.chain-chain.ensures.stores, c.requires.program) at c.in_ok-stores.ensures in
    let e = rw (c.new-solved.ensures, c.as_slice.ensures.value, c.requires.program) at c.in-Owned.ensures.state in
    record {
      program = c.requires.program;
      place = c.requires.place;
      sight = c.requires.sight;
      goes = owned c.args.view.now c.requires.seen c.args.goal c.args.message.frame c.args.message.message c.args.message.port c.requires.place c.requires.sight k c.in_ok-stores.stores.items all c.in-Owned.port e.0 e.1;
    }

pub returns-in_default : goal.returns-in_default
returns-in_default c =
    let d = rw (c.in_default.is, c.chain-chain.ensures.nodes, c.chain-chain.ensures.stores, c.requires.program) at c.in_ok-consistent.ensures in
    clash_none c.args.view.now c.requires.seen c.args.goal c.args.message.frame c.args.message.message c.args.message.port c.requires.place c.requires.sight (λ k. d.1.differ (k.heads d.0 d.1.is_left d.1.is_right))

pub returns-in-Elsewhere : goal.returns-in-Elsewhere
returns-in-Elsewhere c =
    let k = rw (c.in-Consistent.is, c.chain-chain.ensures.nodes, c.chain-chain.ensures.stores, c.requires.program) at c.in_ok-consistent.ensures in
    let all = rw (c.chain-chain.ensures.nodes, c.chain-chain.ensures.stores, c.requires.program) at c.in_ok-stores.ensures in
    let e = rw (c.new-solved.ensures, c.as_slice.ensures.value, c.requires.program) at c.in-Elsewhere.ensures.state in
    elsewhere_none c.args.view.now c.requires.seen c.args.goal c.args.message.frame c.args.message.message c.args.message.port c.requires.place c.requires.sight k c.in_ok-stores.stores.items all c.in-Elsewhere.field-0 e.0 e.1

pub returns-in-Waits : goal.returns-in-Waits
returns-in-Waits c =
    let k = rw (c.in-Consistent.is, c.chain-chain.ensures.nodes, c.chain-chain.ensures.stores, c.requires.program) at c.in_ok-consistent.ensures in
    let all = rw (c.chain-chain.ensures.nodes, c.chain-chain.ensures.stores, c.requires.program) at c.in_ok-stores.ensures in
    let e = rw (c.new-solved.ensures, c.as_slice.ensures.value, c.requires.program) at c.in-Waits.ensures.state in
    waits_none c.args.view.now c.requires.seen c.args.goal c.args.message.frame c.args.message.message c.args.message.port c.requires.place c.requires.sight k c.in_ok-stores.stores.items all e.1

pub returns : goal.returns
returns c =
    let k = rw (c.in-Consistent.is, c.chain-chain.ensures.nodes, c.chain-chain.ensures.stores, c.requires.program) at c.in_ok-consistent.ensures in
    let all = rw (c.chain-chain.ensures.nodes, c.chain-chain.ensures.stores, c.requires.program) at c.in_ok-stores.ensures in
    let e = rw (c.new-solved.ensures, c.as_slice.ensures.value, c.requires.program) at c.in-NoPort.ensures.state in
    no_port_none c.args.view.now c.requires.seen c.args.goal c.args.message.frame c.args.message.message c.args.message.port c.requires.place c.requires.sight k c.in_ok-stores.stores.items all e
