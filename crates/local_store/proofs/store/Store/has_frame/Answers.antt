use Rattle.std.proofs.Common.{◌≡◌, true, false, sym, ap, ◌∙◌}
use Rattle.std.specs.Prelude.{◌||◌}
use Rattle.local_store.specs.Stored.{Stored, is_named}
use Rattle.local_store.specs.Kept.{frames_of}
use Rattle.local_store.proofs.SettledValues.{all-named, or-turned}
use Rattle.local_store.proofs.store.Store.has_frame.Goals as goal

pub returns-then-is_among : goal.returns-then-is_among
returns-then-is_among c =
    let here : is_named c.self.inside.frames.items c.args.frame ≡ true = sym (c.is_among.ensures ∙ ap (λ l. is_named l c.args.frame) c.as_slice.ensures) ∙ c.if-is_among.true in
    c.if-is_among.true ∙ sym (or-turned (is_named (frames_of c.self.inside.settled) c.args.frame) true) ∙ ap (λ b. is_named (frames_of c.self.inside.settled) c.args.frame || b) (sym here)
    ∙ sym (all-named (frames_of c.self.inside.settled) c.self.inside.frames.items c.args.frame) ∙ ap (λ (s : Stored). is_named s.frames c.args.frame) c.self.view_is

pub returns-else-is_among : goal.returns-else-is_among
returns-else-is_among c =
    let missing : is_named c.self.inside.frames.items c.args.frame ≡ false = sym (c.is_among.ensures ∙ ap (λ l. is_named l c.args.frame) c.as_slice.ensures) ∙ c.if-is_among.false in
    c.has_frame.ensures ∙ sym (or-turned (is_named (frames_of c.self.inside.settled) c.args.frame) false) ∙ ap (λ b. is_named (frames_of c.self.inside.settled) c.args.frame || b) (sym missing)
    ∙ sym (all-named (frames_of c.self.inside.settled) c.self.inside.frames.items c.args.frame) ∙ ap (λ (s : Stored). is_named s.frames c.args.frame) c.self.view_is
