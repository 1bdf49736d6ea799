-- What the lines of a script print.
use Rattle.std.specs.Prelude.{ℕ, ◌/◌, ◌%◌, Bool, List, [], ◌∷◌, ◌++◌, Option, None, Some, if◌then◌else◌, codes, decimal}
use Rattle.std.specs.List.{flat_map}
use Rattle.geo_stamp.specs.Stamps.{Moment}
use Rattle.geo_records.specs.declared.version.Version.{Version}
use Rattle.geo_world.specs.declared.event.Trace.{Trace}
use Rattle.geo_world.specs.declared.event.Trace.TheVariants.{Replied, Evicted, Sent, SendRefused, Taken, TakeRefused, Removed, Ticked, Reaped, ReapRefused, Filled as FilledAs, FillRefused, Retired as RetiredAs, RetireRefused}
use Rattle.geo_site.specs.declared.fill.Filled.{Filled}
use Rattle.geo_site.specs.declared.fill.Filled.TheVariants.{NotNamed, Held, Full, Done}
use Rattle.geo_site.specs.declared.refusal.TakeError.{TakeError}
use Rattle.geo_site.specs.declared.refusal.TakeError.TheVariants.{NotForMe, UnknownSite, Retired, Gap, Memory}
use Rattle.geo_site.specs.declared.refusal.SendError.{SendError}
use Rattle.geo_site.specs.declared.refusal.SendError.TheVariants as send
use Rattle.geo_site.specs.declared.refusal.ReapError.TheVariants as reap
use Rattle.geo_cluster.specs.Escapes.{escaped, hex_digit}

-- what a site answered to its client's bytes, on one line whatever it is
abbrev pub client_text : ℕ → List ℕ → List ℕ
client_text site answer = decimal site ++ codes "> " ++ escaped answer ++ codes "\n"

-- a word and a number on a line, and a word where something was done
abbrev pub number_text : List ℕ → ℕ → List ℕ
number_text word number = word ++ decimal number ++ codes "\n"

abbrev pub done_text : List ℕ → Bool → List ℕ
done_text word done = if done then word else codes "nothing\n"

-- the number of each cause for which a parcel is not taken or not made, but for want of memory; that a site sends to itself no line says
abbrev pub refused_text : TakeError → Option (List ℕ)
refused_text NotForMe = Some (number_text (codes "refused ") 1)
refused_text UnknownSite = Some (number_text (codes "refused ") 2)
refused_text Retired = Some (number_text (codes "refused ") 5)
refused_text Gap = Some (number_text (codes "refused ") 3)
refused_text Memory = None

abbrev pub unsent_text : SendError → Option (List ℕ)
unsent_text send.NoSuchSite = None
unsent_text send.Retired = Some (number_text (codes "refused ") 4)
unsent_text send.Memory = None

-- what came of bytes that were offered
abbrev pub filled_text : Filled → List ℕ
filled_text NotNamed = codes "unnamed\n"
filled_text Held = codes "held\n"
filled_text Full = codes "full\n"
filled_text Done = codes "filled\n"

-- what a line prints of its event, by what came of it, where so many parcels were sent before: a send or a fill for which memory was
-- wanted, and a reply, which stands among others on its client's line, print none
abbrev pub trace_text : ℕ → Trace → Option (List ℕ)
trace_text parcels (Replied reply victim) = None
trace_text parcels (Evicted done) = Some (done_text (codes "evicted\n") done)
trace_text parcels Sent = Some (number_text (codes "parcel ") parcels)
trace_text parcels (SendRefused why) = unsent_text why
trace_text parcels Taken = Some (codes "taken\n")
trace_text parcels (TakeRefused why) = refused_text why
trace_text parcels (Removed horizon count) = Some (number_text (codes "removed ") count)
trace_text parcels (Ticked done) = Some (done_text (codes "flushed\n") done)
trace_text parcels (Reaped done) = Some (done_text (codes "reaped\n") done)
trace_text parcels (ReapRefused reap.ClockEnded) = Some (codes "clock ended\n")
trace_text parcels (ReapRefused reap.Memory) = None
trace_text parcels (FilledAs filled) = Some (filled_text filled)
trace_text parcels FillRefused = None
trace_text parcels (RetiredAs fresh) = Some (done_text (codes "retired\n") fresh)
trace_text parcels (RetireRefused why) = None

-- a stamp by its time and its site
abbrev pub stamp_text : Moment → List ℕ
stamp_text stamp = decimal stamp.time ++ codes " " ++ decimal stamp.site

abbrev pub floor_text : Option Moment → List ℕ
floor_text None = codes "floor none\n"
floor_text (Some stamp) = codes "floor " ++ stamp_text stamp ++ codes "\n"

-- bytes by two lower-case digits each
abbrev pub hex_byte : ℕ → List ℕ
hex_byte b = hex_digit (b / 16) ∷ hex_digit (b % 16) ∷ []

abbrev pub hex_text : List ℕ → List ℕ
hex_text bytes = flat_map hex_byte bytes

-- a key with its version: the stamp, flags, length and digest of its value, and its expiry behind that one's stamp
abbrev pub value_text : Version → List ℕ
value_text v = stamp_text v.stamp ++ codes " " ++ decimal v.flags ++ codes " " ++ decimal v.length ++ codes " " ++ hex_text v.digest

abbrev pub expiry_text : Version → List ℕ
expiry_text v = stamp_text v.expiry_stamp ++ codes " " ++ decimal v.expiry

abbrev pub version_text : List ℕ × Version → List ℕ
version_text p = escaped p.0 ++ codes " " ++ value_text p.1 ++ codes " " ++ expiry_text p.1 ++ codes "\n"

-- the greatest stamp of a flush that is known, and the version of each key
abbrev pub versions_text : Option Moment → List (List ℕ × Version) → List ℕ
versions_text floor all = floor_text floor ++ flat_map version_text all ++ codes "end\n"
