use Rattle.geo_crowd.proofs.carried.Carried.begin.Goals as goal

pub returns : goal.returns
returns g c = record { mid = c.write.new.self; first = c.write.ensures; hears = c.read.ensures }
