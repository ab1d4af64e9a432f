use Rattle.std.proofs.Common.{◌≡◌, [], arith, subst, ◌∙◌}
use Rattle.std.specs.Prelude.{◌↔◌, IfOk, IfSome}
use Rattle.akl_outside.specs.Stream.{StreamState}
use Rattle.akl_outside.proofs.Streams.{IfOk-along, IfOk-read_end}
use Rattle.akl_outside.proofs.stream.StreamSourceSource.read.Goals as goal

pub returns-clause-end : goal.returns-clause-end
returns-clause-end g c =
    IfOk-along c.read.result c.counted.result _ (c.counted.ensures.answer ∙ c.ok.ensures.value)
    (subst (λ (s : StreamState). IfOk c.read.result (λ n. IfSome s.bytes (λ bytes. (n ≡ 0) ↔ (bytes ≡ [])))) c.self.view_is
    (IfOk-read_end (g.R.Read.remaining c.self.inside.start.value) _ _ c.read.result c.read.new.buf (omega (arith, c.requires)) c.read.ensures.bound c.read.ensures.bytes))
