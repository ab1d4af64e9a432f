use Rattle.std.proofs.lemmas.Result.{IfOk-weaker}
use Rattle.local_store.proofs.PartsJoined.{clash-part}
use Rattle.local_store.proofs.telling.ToldPart.add_clash.Goals as goal

pub returns-clause-store : goal.returns-clause-store
returns-clause-store c = IfOk-weaker c.add_clash.result _ _ (λ z e. clash-part c.args.self.now.part c.add_clash.new.self c.args.left c.args.right c.add_clash.ensures.names e) c.add_clash.ensures.added
