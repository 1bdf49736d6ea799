use Rattle.geo_grammar.proofs.Told.{bytes_told}
use Rattle.geo_grammar.proofs.telling.tell_bytes.Goals as goal

pub returns-clause-text : goal.returns-clause-text
returns-clause-text c = bytes_told c.args.bytes.now c.args.told 65536 c.args.out.now.items c.extend_from_slice-2.new.self.items c.split_at-2.result.0.now c.split_at.result.1.now c.split_at.ensures.back c.split_at-2.ensures.front c.in_ok-extend_from_slice-3.ensures.items
