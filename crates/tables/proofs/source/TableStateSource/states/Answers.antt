use Rattle.table_format.specs.Tables.{source_of}
use Rattle.tables.specs.Meaning.{source}
use Rattle.tables.proofs.Questions.{header_states}
use Rattle.tables.proofs.source.TableStateSource.states.Goals as goal

pub returns : goal.returns
unfolding source source_of
returns c = header_states c.args.self.now
