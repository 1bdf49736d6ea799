-- What a site keeps, but for values: its vector, what it heard of the others and whom it holds for retired, its floor, and its record of
-- each key. (Joins of states and of deltas: Almeida et al. 2018; the clock: Lamport 1978.)
use Rattle.std.specs.Prelude.{◌≡◌, ℕ, ◌+◌, Bool, List, [], ◌∷◌, Option, None}
use Rattle.geo_stamp.specs.Acks.{Heard, row_of, none_heard, heard, retires, horizon_of, looked}
use Rattle.geo_stamp.specs.Retired.{no_sites}
use Rattle.geo_stamp.specs.Stamps.{Moment}
use Rattle.geo_stamp.specs.Vectors.{zeros, vector_joined, greatest_of, raised}
use Rattle.geo_versions.specs.Maps.{since, remaining, recent_both, floor_in, record_in}
use Rattle.geo_records.specs.Operations.{Act, Record, record_joined, floor_joined, above_both, body_of, expiry_of, flush_of}
use Rattle.geo_delta.specs.declared.parcel.Parcel.{Parcel}
use Rattle.geo_site.specs.declared.site.Site.{Site}
use Rattle.geo_site.specs.Machine.{Delta, next_operation}
use Rattle.geo_site.specs.Sites.{heard_in, delta_of}

-- what a site keeps
pub record Table : Type 0 where
  pub vector : List ℕ
  pub heard : Heard
  pub floor : Option Moment
  pub kept : List ℕ → Record

-- what a parcel brings, from whom, and whom that one holds for retired
pub record Brought : Type 0 where
  pub from : ℕ
  pub set : List Bool
  pub delta : Delta

-- at the start it keeps nothing
abbrev pub empty_table : ℕ → Table
empty_table sites = record { vector = zeros sites; heard = none_heard sites; floor = None; kept = λ _. (None, None) }

abbrev pub brings_nothing : Brought
brings_nothing = record { from = 0; set = no_sites; delta = record { upto = []; floor = None; map = λ _. (None, None) } }

-- the horizon that the site answers, and what it heard with that horizon kept
abbrev pub horizon_at : ℕ → Table → ℕ
horizon_at number t = horizon_of t.heard number t.vector

abbrev pub looked_at : ℕ → Table → Heard
looked_at number t = looked t.heard number t.vector

-- it issues an operation: the join with that operation's one record
abbrev pub issue_at : ℕ → Act → Table → Table
issue_at number act t =
    let op = next_operation (greatest_of t.vector) number act in
    let floor = floor_joined t.floor (flush_of op) in
    record {
      vector = raised t.vector number (greatest_of t.vector + 1);
      heard = t.heard;
      floor = floor;
      kept = λ key. above_both floor (record_joined (t.kept key) (body_of key op, expiry_of key op));
    }

-- one after the other
abbrev pub issue_all_at : ℕ → List Act → Table → Table
issue_all_at number [] t = t
issue_all_at number (act ∷ acts) t = issue_all_at number acts (issue_at number act t)

-- it takes a parcel: the join with its records as they were cut, sifted by the horizon that stood before
abbrev pub take_at : ℕ → Brought → Table → Table
take_at number b t =
    let joined = vector_joined t.vector b.delta.upto in
    let vector = raised joined number (greatest_of joined) in
    let floor = floor_joined t.floor b.delta.floor in
    record {
      vector = vector;
      heard = looked (heard (looked_at number t) b.from b.delta.upto b.set) number vector;
      floor = floor;
      kept = λ key. above_both floor (record_joined (t.kept key) (recent_both (horizon_at number t) (b.delta.map key)));
    }

-- it drops exactly what lies at or below its horizon and has no version
abbrev pub remove_at : ℕ → Table → Table
remove_at number t = record {
  vector = t.vector;
  heard = t.heard;
  floor = t.floor;
  kept = λ key. remaining (horizon_at number t) (t.kept key);
}

-- it holds another site for retired
abbrev pub retire_at : ℕ → ℕ → Table → Table
retire_at number other t = record {
  vector = t.vector;
  heard = looked (retires (looked_at number t) other) number t.vector;
  floor = t.floor;
  kept = t.kept;
}

-- what it cuts for another: the records that it did not hear the other to know
abbrev pub brought_at : ℕ → ℕ → Table → Brought
brought_at number to t = record {
  from = number;
  set = t.heard.set;
  delta = record { upto = t.vector; floor = t.floor; map = λ key. since (row_of t.heard.rows to) (t.kept key) };
}

-- a site of the code, and a parcel, are what is kept and brought
abbrev pub table_in : Site → Table
table_in site = record { vector = site.vector; heard = heard_in site; floor = floor_in site.versions; kept = record_in site.versions }

abbrev pub brought_in : Parcel → Brought
brought_in parcel = record { from = parcel.from; set = parcel.retired; delta = delta_of parcel }
