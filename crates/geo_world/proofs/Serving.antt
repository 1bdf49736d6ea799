-- Values that are served are what was written.
use Rattle.std.proofs.Common.{◌≡◌, ℕ, Bool, true, false, cond, true≢false, ◌==◌, ◌&&◌, List, [], ◌∷◌, ◌++◌, length, Option, None, Some, refl, sym, ap, ◌∙◌, subst, ◌⊎◌, inl, inr}
use Rattle.std.specs.List.{list_any}
use Rattle.std.specs.Str.{bytes_eq}
use Rattle.std.specs.Cmp.Lexicographic.{same_text}
use Rattle.sha2.specs.Sha256.{sha256}
use Rattle.geo_laws.specs.Registers.{by_both}
use Rattle.geo_stamp.specs.Stamps.{Moment, stamp_cmp}
use Rattle.geo_records.specs.Keys.{same_key}
use Rattle.geo_records.specs.Bodies.{body_cmp}
use Rattle.geo_records.specs.Operations.{Operation, Act, Register, Record, body_of, floor_of, winner, record_of, latest, Among, version_in, version_of}
use Rattle.geo_records.specs.Operations.Act.{Write, Touch, Flush, Delete}
use Rattle.geo_records.specs.declared.body.Body.{Body}
use Rattle.geo_records.specs.declared.body.Body.TheVariants.{Gone, Value}
use Rattle.geo_records.specs.declared.version.Version.{Version}
use Rattle.geo_requests.specs.declared.request.Request.{Request}
use Rattle.geo_requests.specs.declared.request.Request.TheVariants.{Store, Fetch, FetchTouch, Arith, FlushAll, ShowVersion, Verbosity, Quit}
use Rattle.geo_requests.specs.declared.request.Request.TheVariants as request
use Rattle.geo_requests.specs.declared.reply.Reply.{Reply}
use Rattle.geo_requests.specs.declared.reply.Reply.TheVariants.{MapFull, ClockEnded}
use Rattle.geo_requests.specs.declared.reply.Found.{Found}
use Rattle.geo_requests.specs.declared.stats.Stats.{Stats}
use Rattle.geo_memcache.specs.Entries.{Entry, is_live, expiry_at}
use Rattle.geo_memcache.specs.Decisions.{stores, deletes, touches, counts}
use Rattle.geo_world.specs.declared.event.Event.{Event}
use Rattle.geo_world.specs.declared.event.Event.TheVariants.{Command}
use Rattle.geo_world.specs.declared.event.Trace.{Trace}
use Rattle.geo_world.specs.declared.event.Trace.TheVariants.{Replied}
use Rattle.geo_site.specs.Entries.{values_in, names, entry_in, renewed, found_at, found_of, found_after, touched_after, is_stuck, unique_if, cas_of, Basis, replied, issued, is_crowded, lacks, owed}
use Rattle.geo_world.specs.Schedule.{Known, visible, basis, flushed, RepliesTo, RepliesBy, happens, known, Lawful, EachLawful}
use Rattle.geo_world.specs.Served.{Written, Offered, Apart, NoCollision, ServedBy, EachServed, ReplyServes, TraceServes, AllServe}
use Rattle.geo_site.proofs.Named.{some_same, some_none}
use Rattle.geo_world.proofs.Registers.{found}
use Rattle.geo_world.proofs.Records.{B, above_is}
use Rattle.geo_site.proofs.Verdicts.{stores_plain, deletes_plain, touches_plain, counts_plain}
use Rattle.geo_world.proofs.Sound.{Sound, sound_happens, sound_flushed, grown, grown_replied}

both_true : (a b : Bool) → a && b ≡ true → (a ≡ true) × (b ≡ true)
both_true true b h = (refl, h)
both_true false b h = absurd (true≢false (sym h))

-- what stands in a body register was written by the operation with its stamp
record Wrote (q : List ℕ) (act : Act) (digest : List ℕ) (flags : ℕ) : Type 0 where
  pub bytes : List ℕ
  pub expiry : ℕ
  pub is : act ≡ Write q bytes flags expiry
  pub same : digest ≡ sha256 bytes

same_keys : (a b : List ℕ) → same_key a b ≡ true → a ≡ b
same_keys a b h = same_text a b (sym h)

body_wrote : (q : List ℕ) (st s : Moment) (act : Act) (d : List ℕ) (f l : ℕ) → body_of q (record { stamp = st; act = act }) ≡ Some (s, Value d f l) → (st ≡ s) × Wrote q act d f
body_wrote q st s (Write k b g e) d f l h = by (same_key q k) refl h
  where
    by : (t : Bool) → same_key q k ≡ t → cond {A = Register Body} t (Some (st, Value (sha256 b) g (length b))) None ≡ Some (s, Value d f l) → (st ≡ s) × Wrote q (Write k b g e) d f
    by true p h =
        let stamp : st ≡ s = ap (λ (p : Moment × Body). p.0) (some_same h) in
        let body : Value (sha256 b) g (length b) ≡ Value d f l = ap (λ (p : Moment × Body). p.1) (some_same h) in
        let key = sym (same_keys q k p) in
        let flags : g ≡ f = cc in
        let digest : d ≡ sha256 b = cc in
        (stamp, record { bytes = b; expiry = e; is = λ i. Write (key i) b (flags i) e; same = digest })
    by false p h = absurd (some_none (sym h))
body_wrote q st s (Delete k) d f l h = by (same_key q k) h
  where
    by : (t : Bool) → cond {A = Register Body} t (Some (st, Gone)) None ≡ Some (s, Value d f l) → (st ≡ s) × Wrote q (Delete k) d f
    by true h = let body : Gone ≡ Value d f l = ap (λ (p : Moment × Body). p.1) (some_same h) in cc
    by false h = absurd (some_none (sym h))
body_wrote q st s (Touch k e) d f l h = absurd (some_none (sym h))
body_wrote q st s Flush d f l h = absurd (some_none (sym h))

-- a version is in its record's body register
version_from : (r : Record) (v : Version) → version_in r ≡ Some v → r.0 ≡ Some (v.stamp, Value v.digest v.flags v.length)
version_from (None, e) v h = absurd (some_none (sym h))
version_from (Some (s, Gone), e) v h = absurd (some_none (sym h))
version_from (Some (s, Value d f l), None) v h = ap (λ (v : Version). Some (v.stamp, Value v.digest v.flags v.length)) (some_same h)
version_from (Some (s, Value d f l), Some (t, e)) v h = ap (λ (v : Version). Some (v.stamp, Value v.digest v.flags v.length)) (some_same h)

-- the operation that a version names
record Named (ops : List Operation) (q : List ℕ) (v : Version) : Type 0 where
  pub op : Operation
  pub among : Among ops op
  pub stamp : op.stamp ≡ v.stamp
  pub wrote : Wrote q op.act v.digest v.flags

version_named : (ops : List Operation) (q : List ℕ) (v : Version) → version_of ops q ≡ Some v → Named ops q v
version_named ops q v h =
    let y : Moment × Body = (v.stamp, Value v.digest v.flags v.length) in
    let w : winner ops q ≡ Some y = version_from (record_of ops q) v h in
    let r = found (by_both stamp_cmp body_cmp) (body_of q) ops y (above_is (floor_of ops) (B q ops) y w).0 in
    let b = body_wrote q r.0.stamp v.stamp r.0.act v.digest v.flags v.length r.2 in
    record { op = r.0; among = r.1; stamp = b.0; wrote = b.1 }

-- bytes that a site was offered count as written
abbrev Told : (List ℕ → Type 0) → Known → List ℕ → Type 0
Told P w bytes = Written w bytes ⊎ P bytes

module _ {P : List ℕ → Type 0} (w : Known) (s : ℕ) (sound : Sound P w) (apart : Apart (Told P w)) where
  serve_entry : (numbers : Bool) (q bytes : List ℕ) (v : Version) → w.held s q ≡ Some bytes → version_of (w.at s) q ≡ Some v → ServedBy w (w.at s) (record { key = q; flags = v.flags; unique = unique_if numbers (cas_of v.stamp); bytes = bytes })
  serve_entry numbers q bytes v held version =
      let n = version_named (w.at s) q v version in
      let named : names (Some v) bytes ≡ true = subst (λ o. names o bytes ≡ true) version (sound.named s q bytes held) in
      let digest : v.digest ≡ sha256 bytes = same_text v.digest (sha256 bytes) (sym (both_true (bytes_eq v.digest (sha256 bytes)) (v.length == length bytes) named).0) in
      let one : Told P w n.wrote.bytes = inl (record { site = s; writing = record { op = n.op; among = n.among; key = q; flags = v.flags; expiry = n.wrote.expiry; is = n.wrote.is } }) in
      let two : Told P w bytes = elim (sound.written s q bytes held) [ inl x ↦ inl (record { site = s; writing = x }) | inr x ↦ inr x ] in
      let same : n.wrote.bytes ≡ bytes = apart n.wrote.bytes bytes one two (sym n.wrote.same ∙ digest) in
      record {
        version = v;
        is_version = version;
        op = n.op;
        among = n.among;
        stamp = n.stamp;
        expiry = n.wrote.expiry;
        wrote = n.wrote.is ∙ ap (λ b. Write q b v.flags n.wrote.expiry) same;
        alone = λ t other a e. sound.once other.stamp.site other n.op (sound.home t other a) (subst (λ (x : Moment). Among (w.at x.site) n.op) (sym e) (sound.home s n.op n.among)) e;
      }

  serve_at : (now : ℕ) (numbers : Bool) (q : List ℕ) (o : Option (List ℕ)) (vo : Option Version) → w.held s q ≡ o → version_of (w.at s) q ≡ vo → EachServed w (w.at s) (found_at numbers q (entry_in now vo o))
  serve_at now numbers q None vo held version = tt
  serve_at now numbers q (Some bytes) None held version = tt
  serve_at now numbers q (Some bytes) (Some v) held version = by (is_live v.expiry now)
    where
      by : (t : Bool) → EachServed w (w.at s) (found_at numbers q (cond t (Some (record { bytes = bytes; flags = v.flags; expiry = v.expiry; unique = cas_of v.stamp })) None))
      by true = (serve_entry numbers q bytes v held version, tt)
      by false = tt

  served_append : (xs ys : List Found) → EachServed w (w.at s) xs → EachServed w (w.at s) ys → EachServed w (w.at s) (xs ++ ys)
  served_append [] ys h k = k
  served_append (x ∷ xs) ys h k = (h.0, served_append xs ys h.1 k)

  serve_keys : (now : ℕ) (numbers : Bool) (keys : List (List ℕ)) → EachServed w (w.at s) (found_of numbers (visible w s now) keys)
  serve_keys now numbers [] = tt
  serve_keys now numbers (q ∷ keys) = served_append (found_at numbers q (visible w s now q)) (found_of numbers (visible w s now) keys)
      (serve_at now numbers q (w.held s q) (version_of (w.at s) q) refl refl)
      (serve_keys now numbers keys)

  -- a touched entry shows what it showed
  serve_renewed : (now expiry : ℕ) (numbers : Bool) (q : List ℕ) (o : Option Entry) → EachServed w (w.at s) (found_at numbers q o) → EachServed w (w.at s) (found_at numbers q (renewed now expiry o))
  serve_renewed now expiry numbers q None h = tt
  serve_renewed now expiry numbers q (Some e) h = by (is_live expiry now)
    where
      by : (t : Bool) → EachServed w (w.at s) (found_at numbers q (cond t (Some (record { bytes = e.bytes; flags = e.flags; expiry = expiry; unique = e.unique })) None))
      by true = h
      by false = tt

  serve_after : (now expiry : ℕ) (numbers : Bool) (before : List (List ℕ)) (q : List ℕ) → EachServed w (w.at s) (found_after now expiry numbers (visible w s now) before q)
  serve_after now expiry numbers before q = by (list_any (same_key q) before)
    where
      plain : EachServed w (w.at s) (found_at numbers q (visible w s now q))
      plain = serve_at now numbers q (w.held s q) (version_of (w.at s) q) refl refl

      by : (t : Bool) → EachServed w (w.at s) (found_at numbers q (cond t (renewed now expiry (visible w s now q)) (visible w s now q)))
      by true = serve_renewed now expiry numbers q (visible w s now q) plain
      by false = plain

  serve_touched : (now expiry : ℕ) (numbers : Bool) (before keys : List (List ℕ)) → EachServed w (w.at s) (touched_after now expiry numbers (visible w s now) before keys)
  serve_touched now expiry numbers before [] = tt
  serve_touched now expiry numbers before (q ∷ keys) = served_append (found_after now expiry numbers (visible w s now) before q) (touched_after now expiry numbers (visible w s now) (before ++ q ∷ []) keys)
      (serve_after now expiry numbers before q)
      (serve_touched now expiry numbers (before ++ q ∷ []) keys)

  silent : (r : Reply) → values_in r ≡ [] → ReplyServes w s r
  silent r h = subst (λ xs. EachServed w (w.at s) xs) (sym h) tt

  serve_plain : (now : ℕ) (stats : Stats) (request : Request) → ReplyServes w s (replied now (visible w s now) stats request)
  serve_plain now stats (Store verb key flags exptime unique bytes noreply) = silent (stores verb flags exptime unique bytes now (visible w s now key)).0 (stores_plain verb flags exptime unique bytes now (visible w s now key)).silent
  serve_plain now stats (Fetch keys numbers) = serve_keys now numbers keys
  serve_plain now stats (FetchTouch exptime keys numbers) = serve_touched now (expiry_at exptime now) numbers [] keys
  serve_plain now stats (request.Touch key exptime noreply) = silent (touches exptime now (visible w s now key)).0 (touches_plain exptime now (visible w s now key)).silent
  serve_plain now stats (FlushAll delay noreply) = tt
  serve_plain now stats (request.Delete key noreply) = silent (deletes (visible w s now key)).0 (deletes_plain (visible w s now key)).silent
  serve_plain now stats (Arith up key by noreply) = silent (counts up by (visible w s now key)).0 (counts_plain up by (visible w s now key)).silent
  serve_plain now stats ShowVersion = tt
  serve_plain now stats (Verbosity noreply) = tt
  serve_plain now stats request.Stats = tt
  serve_plain now stats Quit = tt

  serve_owed : (now : ℕ) (kept : List ℕ → Record) (records items : ℕ) (request : Request) → ReplyServes w s (owed now (basis w s now kept records items) request)
  serve_owed now kept records items request = by (is_crowded b (issued now (visible w s now) request)) (lacks (latest (w.at s)) (issued now (visible w s now) request))
    where
      b : Basis
      b = basis w s now kept records items

      by : (t u : Bool) → ReplyServes w s (cond t MapFull (cond u ClockEnded (replied now (visible w s now) b.stats request)))
      by true u = tt
      by false true = tt
      by false false = serve_plain now (basis w s now kept records items).stats request

  serve_reply : (now : ℕ) (request : Request) (reply : Reply) → RepliesTo w s now request reply → ReplyServes w s reply
  serve_reply now request reply h = elim h.answers [
    | inl e ↦ subst (λ r. ReplyServes w s r) (sym e) (serve_owed now h.kept h.records h.items request)
    | inr e ↦ subst (λ r. ReplyServes w s r) (sym e.0) tt
  ]

serve_by : {P : List ℕ → Type 0} → (stuck : Bool) (w : Known) (s now : ℕ) (request : Request) (reply : Reply) → Sound P w → Apart (Told P w) → RepliesBy stuck w s now request reply → ReplyServes w s reply
serve_by true w s now request reply sound apart h = subst (λ r. ReplyServes w s r) (sym h) tt
serve_by false w s now request reply sound apart h = serve_reply w s sound apart now request reply h

written_replied : (w : Known) (s now : ℕ) (request : Request) (reply : Reply) (victim : Option (List ℕ)) (bytes : List ℕ) → Written (flushed w s now) bytes → Written (happens w (Command s now request) (Replied reply victim)) bytes
written_replied w s now request reply victim bytes h = record { site = h.site; writing = record { op = h.writing.op; among = grown_replied w s now request reply victim h.site h.writing.op h.writing.among; key = h.writing.key; flags = h.writing.flags; expiry = h.writing.expiry; is = h.writing.is } }

told_replied : (P : List ℕ → Type 0) (w : Known) (s now : ℕ) (request : Request) (reply : Reply) (victim : Option (List ℕ)) (bytes : List ℕ) → Told P (flushed w s now) bytes → Told P (happens w (Command s now request) (Replied reply victim)) bytes
told_replied P w s now request reply victim bytes (inl h) = inl (written_replied w s now request reply victim bytes h)
told_replied P w s now request reply victim bytes (inr h) = inr h

-- what is known after the event has no collision
serve_trace : {P : List ℕ → Type 0} → (w : Known) (e : Event) (t : Trace) → Sound P w → Apart (Told P (happens w e t)) → Lawful w e t → TraceServes w e t
serve_trace {P = P} w (Command s now request) (Replied reply victim) sound apart h = serve_by (is_stuck (w.waiting s) (latest (w.at s)) now) (flushed w s now) s now request reply (sound_flushed w s now sound) (λ a b x y. apart a b (told_replied P w s now request reply victim a x) (told_replied P w s now request reply victim b y)) h.0
serve_trace w event trace sound apart h = tt

grown_all : (w : Known) (es : List Event) (ts : List Trace) (s : ℕ) (op : Operation) → Among (w.at s) op → Among ((known w es ts).at s) op
grown_all w [] ts s op a = a
grown_all w (e ∷ es) [] s op a = a
grown_all w (e ∷ es) (t ∷ ts) s op a = grown_all (happens w e t) es ts s op (grown w e t s op a)

written_all : (w : Known) (es : List Event) (ts : List Trace) (bytes : List ℕ) → Written w bytes → Written (known w es ts) bytes
written_all w es ts bytes h = record { site = h.site; writing = record { op = h.writing.op; among = grown_all w es ts h.site h.writing.op h.writing.among; key = h.writing.key; flags = h.writing.flags; expiry = h.writing.expiry; is = h.writing.is } }

told_all : (P : List ℕ → Type 0) (w : Known) (es : List Event) (ts : List Trace) (bytes : List ℕ) → Told P w bytes → Told P (known w es ts) bytes
told_all P w es ts bytes (inl h) = inl (written_all w es ts bytes h)
told_all P w es ts bytes (inr h) = inr h

serve_all : {P : List ℕ → Type 0} → (w : Known) (es : List Event) (ts : List Trace) → ((bytes : List ℕ) → Offered es bytes → P bytes) → Sound P w → EachLawful w es ts → Apart (Told P (known w es ts)) → AllServe w es ts
serve_all w [] ts offered sound lawful apart = tt
serve_all w (e ∷ es) [] offered sound lawful apart = tt
serve_all {P = P} w (e ∷ es) (t ∷ ts) offered sound lawful apart = (
  serve_trace w e t sound (λ a b x y. apart a b (told_all P (happens w e t) es ts a x) (told_all P (happens w e t) es ts b y)) lawful.0,
  serve_all (happens w e t) es ts (λ bytes o. offered bytes (inr o)) (sound_happens w e t (λ bytes o. offered bytes (inl o)) lawful.0 sound) lawful.1 apart,
)

-- lawful replies serve what was written
pub all_serve : (w : Known) (es : List Event) (ts : List Trace) → Sound (Offered es) w → EachLawful w es ts → NoCollision (known w es ts) es → AllServe w es ts
all_serve w es ts sound lawful apart = serve_all w es ts (λ bytes o. o) sound lawful apart

-- one event more
pub lawful_more : (w : Known) (es : List Event) (ts : List Trace) (e : Event) (t : Trace) → EachLawful w es ts → Lawful (known w es ts) e t → EachLawful w (es ++ e ∷ []) (ts ++ t ∷ [])
lawful_more w [] [] e t h l = (l, tt)
lawful_more w [] (u ∷ ts) e t h l = absurd h
lawful_more w (d ∷ es) [] e t h l = absurd h
lawful_more w (d ∷ es) (u ∷ ts) e t h l = (h.0, lawful_more (happens w d u) es ts e t h.1 l)

pub known_more : (w : Known) (es : List Event) (ts : List Trace) (e : Event) (t : Trace) → EachLawful w es ts → known w (es ++ e ∷ []) (ts ++ t ∷ []) ≡ happens (known w es ts) e t
known_more w [] [] e t h = refl
known_more w [] (u ∷ ts) e t h = absurd h
known_more w (d ∷ es) [] e t h = absurd h
known_more w (d ∷ es) (u ∷ ts) e t h = known_more (happens w d u) es ts e t h.1
