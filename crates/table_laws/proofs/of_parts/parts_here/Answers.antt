use Rattle.table_laws.proofs.Here as law
use Rattle.table_laws.proofs.of_parts.parts_here.Goals as goal

pub returns-clause-stands : goal.returns-clause-stands
returns-clause-stands c = λ rules run S s f is more part. law.part_stands rules run S s f is more part

pub returns-clause-tells : goal.returns-clause-tells
returns-clause-tells c = λ rules run S s f is l g x m. law.tells_here rules run S s f is l g x m

pub returns-clause-told : goal.returns-clause-told
returns-clause-told c = λ rules run S s f is l g x m told same is_told frames. law.tells_from rules run S s f is l g x m told same is_told frames

pub returns-clause-joins : goal.returns-clause-joins
returns-clause-joins c = λ rules run S s f is l g x goals m. law.joins_here rules run S s f is l g x goals m

pub returns-clause-joined : goal.returns-clause-joined
returns-clause-joined c = λ rules run S s f is l g x goals m frames. law.joins_from rules run S s f is l g x goals m frames
