use Rattle.entail_test.proofs.reading.noisy_among.Goals as goal

pub returns : goal.returns
returns c = c.noisy_members.ensures
