use Rattle.std.proofs.Common.{◌≡◌, ◌<◌, ap, ◌∙◌, arith}
use Rattle.std.proofs.lemmas.List.Elements.{All-from_get_or}
use Rattle.geo_cluster.specs.Escapes.{escaped, unescaped}
use Rattle.geo_cluster.proofs.Escaping.{read_back}
use Rattle.geo_cluster.proofs.script.escape.escape.Goals as goal

pub returns-clause-back : goal.returns-clause-back
returns-clause-back c =
    let all : c.push_all_escaped.new.out.items ≡ escaped c.args.bytes.now = grind arith in
    ap unescaped all ∙ read_back c.args.bytes.now (All-from_get_or (λ b. b < 256) c.args.bytes.now 0 (λ k h. let fits = c.type_inv.bytes k in omega arith))
