use Rattle.table_laws.proofs.GoneSteps.{gone_law, gone_listed_law}
use Rattle.table_laws.proofs.of_tables.gone_places.Goals as goal

pub returns : goal.returns
returns c = record { by_rows = gone_law; listed = gone_listed_law }
