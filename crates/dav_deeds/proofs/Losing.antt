-- What was lost stays among the lost files.
use Rattle.std.proofs.Common.{◌≡◌, ℕ, Bool, List, [], ◌∷◌, Option, Some, None, Contains, sym, subst}
use Rattle.dav_text.specs.Path.{PathParts}
use Rattle.dav_store.specs.declared.body_id.BodyId.{BodyId}
use Rattle.dav_index.specs.Item.{Item}
use Rattle.dav_index.specs.declared.lost.LostItem.{LostItem}
use Rattle.dav_deeds.specs.declared.answer.Fated.{Fated}
use Rattle.dav_deeds.specs.declared.answer.Fated.TheVariants as fates
use Rattle.dav_deeds.specs.declared.answer.Flight.{Flight}
use Rattle.dav_deeds.specs.declared.ask.Done.{Done}
use Rattle.dav_deeds.specs.declared.ask.Done.TheVariants as ends
use Rattle.dav_deeds.specs.DeskTable.{DeskTable}
use Rattle.dav_deeds.specs.Effects.{store_effect, going, forgot_record, forget_effect, tried, take_effect, fated_of, settle_effect, settle_by_fate, recorded, changed}
use Rattle.dav_deeds.proofs.Queued.{waited_lost, lost_before}

settle_keeps : (t : DeskTable) (x : LostItem) (flight : Flight) (done : Done) (fated : Fated) → Contains t.index.lost x → Contains (changed t (settle_by_fate t flight done fated)).index.lost x
settle_keeps t x flight (ends.Sent seen) fates.Clean there = there
settle_keeps t x flight (ends.Sent seen) fates.Superseded there = there
settle_keeps t x flight (ends.Sent seen) (fates.Waits n due) there = there
settle_keeps t x flight (ends.Sent seen) (fates.Lost n) there = there
settle_keeps t x flight (ends.Again after) fates.Clean there = there
settle_keeps t x flight (ends.Again after) fates.Superseded there = there
settle_keeps t x flight (ends.Again after) (fates.Waits n due) there = there
settle_keeps t x flight (ends.Again after) (fates.Lost n) there = lost_before flight.path n t.index x there
settle_keeps t x flight ends.Refused fates.Clean there = there
settle_keeps t x flight ends.Refused fates.Superseded there = there
settle_keeps t x flight ends.Refused (fates.Waits n due) there = there
settle_keeps t x flight ends.Refused (fates.Lost n) there = lost_before flight.path n t.index x there

pub settling_keeps : (t : DeskTable) (x : LostItem) (job : Option Flight) (now : ℕ) (done : Done) → Contains t.index.lost x → Contains (changed t (settle_effect t job now done)).index.lost x
settling_keeps t x None now done there = there
settling_keeps t x (Some flight) now done there = settle_keeps t x flight done (fated_of t.index flight now done) there

pub store_keeps : (t : DeskTable) (x : LostItem) (p : PathParts) (now : ℕ) (body : Option BodyId) → Contains t.index.lost x → Contains (changed t (store_effect t p now body)).index.lost x
store_keeps t x p now None there = there
store_keeps t x p now (Some b) there = there

pub take_keeps : (t : DeskTable) (x : LostItem) (job : Option Flight) → Contains t.index.lost x → Contains (changed t (take_effect t job)).index.lost x
take_keeps t x None there = there
take_keeps t x (Some flight) there = subst (λ (ls : List LostItem). Contains ls x) (sym (waited_lost t.index (tried t flight))) there

pub forget_keeps : (t : DeskTable) (x : LostItem) (p : PathParts) (locks below : Bool) → Contains t.index.lost x → Contains (changed t (forget_effect t p locks below)).index.lost x
forget_keeps t x p locks below there = by (going p below t.index.entries)
  where
    by : (items : List Item) → Contains (recorded t.index (forgot_record p locks below items)).lost x
    by [] = there
    by (y ∷ ys) = there
