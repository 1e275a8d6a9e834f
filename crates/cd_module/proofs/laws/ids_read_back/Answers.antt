use Rattle.cd_module.proofs.Ids.{id_reads_back, read_is_id, text_is_dotted}
use Rattle.cd_module.proofs.laws.ids_read_back.Goals as goal

pub returns-clause-id : goal.returns-clause-id
returns-clause-id c = id_reads_back c.args.id.now.labels

pub returns-clause-read : goal.returns-clause-read
returns-clause-read c = read_is_id c.args.text.now

pub returns-clause-text : goal.returns-clause-text
returns-clause-text c = text_is_dotted c.args.text.now
