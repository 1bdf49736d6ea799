use Rattle.std.proofs.Common.{◌-◌, ◌∙◌, ℕ, List, length, arith, refl, subst, Ok, Err}
use Rattle.geo_site.specs.Fills.{FillDoes}
use Rattle.geo_world.proofs.Alone.{does_alone}
use Rattle.geo_world.proofs.Worlds.{there_is, read_is}
use Rattle.geo_world.proofs.Answering.{fill_lawful, fill_agrees, fill_refused_lawful, fill_refused_agrees}
use Rattle.geo_world.proofs.Keeping.{keep_fill, keep_not_filled}
use Rattle.geo_world.proofs.world.World.fill.Goals as goal

pub returns-in-Ok-clause-lawful : goal.returns-in-Ok-clause-lawful
returns-in-Ok-clause-lawful c = λ w agrees.
    let n = length c.args.self.now.sites.items in
    let there = there_is n c.args.site c.requires.there in
    let lo = there.first in
    let hi = there.last in
    let got = read_is c.args.self.now.sites.items (c.args.site - 1) c.index_mut-at.result.now (omega arith) c.index_mut-at.ensures.value in
    let does = subst (λ (b : List ℕ). FillDoes c.index_mut-at.result.now c.fill.new.self c.args.key.now b (Ok c.in-Ok.filled)) (c.known-blob.ensures ∙ c.as_slice.ensures) c.in-Ok.ensures.does in
    fill_lawful _ _ w agrees (c.args.site - 1) c.args.site (omega arith) hi c.index_mut-at.result.now c.fill.new.self got c.args.key.now c.args.bytes.now c.in-Ok.filled does

pub returns-in-Ok-clause-kept : goal.returns-in-Ok-clause-kept
returns-in-Ok-clause-kept c = λ w agrees.
    let n = length c.args.self.now.sites.items in
    let there = there_is n c.args.site c.requires.there in
    let lo = there.first in
    let hi = there.last in
    let got = read_is c.args.self.now.sites.items (c.args.site - 1) c.index_mut-at.result.now (omega arith) c.index_mut-at.ensures.value in
    let does = subst (λ (b : List ℕ). FillDoes c.index_mut-at.result.now c.fill.new.self c.args.key.now b (Ok c.in-Ok.filled)) (c.known-blob.ensures ∙ c.as_slice.ensures) c.in-Ok.ensures.does in
    fill_agrees _ _ w agrees (c.args.site - 1) c.args.site (omega arith) hi c.index_mut-at.result.now c.fill.new.self got c.args.key.now c.args.bytes.now c.in-Ok.filled does

pub returns-in-Ok-clause-alone : goal.returns-in-Ok-clause-alone
returns-in-Ok-clause-alone c =
    let n = length c.args.self.now.sites.items in
    let there = there_is n c.args.site c.requires.there in
    let lo = there.first in
    let hi = there.last in
    let got = read_is c.args.self.now.sites.items (c.args.site - 1) c.index_mut-at.result.now (omega arith) c.index_mut-at.ensures.value in
    let does = subst (λ (b : List ℕ). FillDoes c.index_mut-at.result.now c.fill.new.self c.args.key.now b (Ok c.in-Ok.filled)) (c.known-blob.ensures ∙ c.as_slice.ensures) c.in-Ok.ensures.does in
    does_alone c.args.self.now.sites.items c.args.site c.index_mut-at.result.now lo got _ _ refl c.fill.new.self does

pub returns-in-Ok-clause-tables : goal.returns-in-Ok-clause-tables
returns-in-Ok-clause-tables c = λ w all agrees keep.
    let n = length c.args.self.now.sites.items in
    let there = there_is n c.args.site c.requires.there in
    let lo = there.first in
    let hi = there.last in
    let got = read_is c.args.self.now.sites.items (c.args.site - 1) c.index_mut-at.result.now (omega arith) c.index_mut-at.ensures.value in
    let does = subst (λ (b : List ℕ). FillDoes c.index_mut-at.result.now c.fill.new.self c.args.key.now b (Ok c.in-Ok.filled)) (c.known-blob.ensures ∙ c.as_slice.ensures) c.in-Ok.ensures.does in
    (tt, keep_fill _ _ all keep (c.args.site - 1) c.args.site (omega arith) c.index_mut-at.result.now c.fill.new.self got c.args.key.now c.args.bytes.now c.in-Ok.filled does)

pub returns-in-Err-clause-lawful : goal.returns-in-Err-clause-lawful
returns-in-Err-clause-lawful c = λ w agrees.
    let n = length c.args.self.now.sites.items in
    let there = there_is n c.args.site c.requires.there in
    let lo = there.first in
    let hi = there.last in
    let got = read_is c.args.self.now.sites.items (c.args.site - 1) c.index_mut-at.result.now (omega arith) c.index_mut-at.ensures.value in
    let does = subst (λ (b : List ℕ). FillDoes c.index_mut-at.result.now c.fill.new.self c.args.key.now b (Err c.in-Err.field-0)) (c.known-blob.ensures ∙ c.as_slice.ensures) c.in-Err.ensures.does in
    fill_refused_lawful _ _ w agrees (c.args.site - 1) c.args.site (omega arith) hi c.index_mut-at.result.now c.fill.new.self got c.args.key.now c.args.bytes.now c.in-Err.field-0 does

pub returns-in-Err-clause-kept : goal.returns-in-Err-clause-kept
returns-in-Err-clause-kept c = λ w agrees.
    let n = length c.args.self.now.sites.items in
    let there = there_is n c.args.site c.requires.there in
    let lo = there.first in
    let hi = there.last in
    let got = read_is c.args.self.now.sites.items (c.args.site - 1) c.index_mut-at.result.now (omega arith) c.index_mut-at.ensures.value in
    let does = subst (λ (b : List ℕ). FillDoes c.index_mut-at.result.now c.fill.new.self c.args.key.now b (Err c.in-Err.field-0)) (c.known-blob.ensures ∙ c.as_slice.ensures) c.in-Err.ensures.does in
    fill_refused_agrees _ _ w agrees (c.args.site - 1) c.args.site (omega arith) hi c.index_mut-at.result.now c.fill.new.self got c.args.key.now c.args.bytes.now c.in-Err.field-0 does

pub returns-in-Err-clause-alone : goal.returns-in-Err-clause-alone
returns-in-Err-clause-alone c =
    let n = length c.args.self.now.sites.items in
    let there = there_is n c.args.site c.requires.there in
    let lo = there.first in
    let hi = there.last in
    let got = read_is c.args.self.now.sites.items (c.args.site - 1) c.index_mut-at.result.now (omega arith) c.index_mut-at.ensures.value in
    let does = subst (λ (b : List ℕ). FillDoes c.index_mut-at.result.now c.fill.new.self c.args.key.now b (Err c.in-Err.field-0)) (c.known-blob.ensures ∙ c.as_slice.ensures) c.in-Err.ensures.does in
    does_alone c.args.self.now.sites.items c.args.site c.index_mut-at.result.now lo got _ _ refl c.fill.new.self (record { refused = c.in-Err.field-0; does = does })

pub returns-in-Err-clause-tables : goal.returns-in-Err-clause-tables
returns-in-Err-clause-tables c = λ w all agrees keep.
    let n = length c.args.self.now.sites.items in
    let there = there_is n c.args.site c.requires.there in
    let lo = there.first in
    let hi = there.last in
    let got = read_is c.args.self.now.sites.items (c.args.site - 1) c.index_mut-at.result.now (omega arith) c.index_mut-at.ensures.value in
    let does = subst (λ (b : List ℕ). FillDoes c.index_mut-at.result.now c.fill.new.self c.args.key.now b (Err c.in-Err.field-0)) (c.known-blob.ensures ∙ c.as_slice.ensures) c.in-Err.ensures.does in
    (tt, keep_not_filled _ _ all keep (c.args.site - 1) c.args.site (omega arith) c.index_mut-at.result.now c.fill.new.self got c.args.key.now c.args.bytes.now c.in-Err.field-0 does)
