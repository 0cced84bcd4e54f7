-- `walker::Walker::make_rows` meets its contract: a walker of zeros where the setting is refused, else one of the setting.
-- Assumes nothing.
use Rattle.tables.specs.Rows.{net_of}
use Rattle.walker.proofs.Makes.{make-refused, make-fits, make-made}
use Rattle.walker.proofs.Walker.make_rows.Goals as goal

pub returns-in-Err : goal.returns-in-Err
returns-in-Err c = make-refused (net_of c.args.basins c.args.kinds.now c.args.a.now c.args.b.now) c.args.setting.now c.check_refusal.ensures c.in-Err.is c.padded.ensures

pub padded-requires-in-Ok : goal.padded-requires-in-Ok
padded-requires-in-Ok c = make-fits (net_of c.args.basins c.args.kinds.now c.args.a.now c.args.b.now) c.args.setting.now c.check_refusal.ensures c.in-Ok.is

pub returns-in-Ok : goal.returns-in-Ok
returns-in-Ok c = make-made (net_of c.args.basins c.args.kinds.now c.args.a.now c.args.b.now) c.args.setting.now c.check_refusal.ensures c.in-Ok.is c.padded-in-Ok.ensures
