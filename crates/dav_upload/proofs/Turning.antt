-- The steps of turns have their requests on the wire.
use Rattle.std.proofs.Common.{◌≡◌, ℕ, List, [], ◌∷◌, ◌++◌, Option, Some, None, Ok, refl, sym, ◌∙◌, ap, subst}
use Rattle.dav_machine.proofs.Logs.{grows_then, grows_same}
use Rattle.dav_edge.specs.Device.{Happened, DeviceLog, Grew, is_failure}
use Rattle.dav_text.specs.declared.tag.Seen.{Seen}
use Rattle.dav_uri.specs.Target.{BaseParts}
use Rattle.dav_deeds.specs.declared.answer.Flight.{Flight}
use Rattle.dav_deeds.specs.declared.answer.Job.{Job}
use Rattle.dav_deeds.specs.declared.answer.Told.TheVariants.{Took, Idle}
use Rattle.dav_deeds.specs.declared.ask.Done.{Done}
use Rattle.dav_deeds.specs.declared.ask.Done.TheVariants.{Sent, Again, Refused}
use Rattle.dav_deeds.specs.declared.deed.Deed.{Deed}
use Rattle.dav_deeds.specs.declared.deed.Deed.TheVariants.{Take, Settle}
use Rattle.dav_deeds.specs.declared.deed.Mark.{Mark}
use Rattle.dav_deeds.specs.declared.deed.Mark.TheVariants as marks
use Rattle.dav_deeds.specs.declared.deed.Step.{Step}
use Rattle.dav_deeds.specs.DeskTable.{DeskTable}
use Rattle.dav_deeds.specs.Effects.{take_effect, taken, changed, after, told_of}
use Rattle.dav_deeds.specs.Legal.{table_after}
use Rattle.dav_upload.specs.Backs.{HasPut, HasPutOf, job_sent, Backs}
use Rattle.dav_upload.specs.Ending.{Sends, flight_in}
use Rattle.dav_upload.specs.Turns.{Takes, Turns, none, turn, cut, Backed}
use Rattle.dav_upload.proofs.Backing.{backs_both}
use Rattle.dav_upload.proofs.SentJobs.{sends_put}

same_flight : (one other : Flight) → Some (Took one) ≡ Some (Took other) → one ≡ other
same_flight one other is = cc

-- a job that is given is in flight
given_flies : (t : DeskTable) (job : Option Flight) (flight : Flight) → (take_effect t job).told ≡ Some (Took flight) → (changed t (take_effect t job)).job ≡ Some flight
given_flies t None flight is = let h : Some Idle ≡ Some (Took flight) = is in cc
given_flies t (Some one) flight is = ap (λ (f : Flight). Some f) (same_flight one flight is)

taken_flies : (t : DeskTable) (s : Step) (flight : Flight) → s.deed ≡ Take → s.told ≡ told_of t s.now s.deed → s.told ≡ Some (Took flight) → (after t s.now s.deed).job ≡ Some flight
taken_flies t s flight deed legal told =
    subst (λ (d : Deed). (after t s.now d).job ≡ Some flight) (sym deed)
    (given_flies t (taken t s.now) flight (sym (ap (told_of t s.now) deed) ∙ sym legal ∙ told))

-- a take tells nothing to be sent
pub take_sends_none : (base : BaseParts) (bodies : ℕ → List ℕ) (job : Option Flight) (s : Step) (events : List Happened) → s.deed ≡ Take → HasPutOf base bodies (job_sent job s.deed s.mark) events
take_sends_none base bodies job s events deed = subst (λ (d : Deed). HasPutOf base bodies (job_sent job d s.mark) events) (sym deed) tt

-- a settling has the request of its job among the calls, where it tells the job to be sent
pub settling_sends : (base : BaseParts) (bodies : ℕ → List ℕ) (flight : Flight) (number : ℕ) (done : Done) (mark : Mark) (events : List Happened) → ((seen : Seen) → done ≡ Sent seen → HasPut base bodies flight events)
    → HasPutOf base bodies (job_sent (Some flight) (Settle number done) mark) events
settling_sends base bodies flight number (Sent seen) marks.Plain events put = put seen refl
settling_sends base bodies flight number (Sent seen) (marks.Body body) events put = tt
settling_sends base bodies flight number (Sent seen) (marks.Job other) events put = tt
settling_sends base bodies flight number (Sent seen) (marks.LostAs lost) events put = tt
settling_sends base bodies flight number (Sent seen) (marks.Refused fault) events put = tt
settling_sends base bodies flight number (Again after) mark events put = tt
settling_sends base bodies flight number Refused mark events put = tt

-- the calls of one sending, with the request where the job was sent
pub record PutsIf (base : BaseParts) (bodies : ℕ → List ℕ) (flight : Flight) (done : Done) (old new : DeviceLog) : Type 0 where
  pub events : List Happened
  pub grew : Grew old new events
  pub put : (seen : Seen) → done ≡ Sent seen → HasPut base bodies flight events

pub puts_if : (base : BaseParts) (bodies : ℕ → List ℕ) (job : Job) (done : Done) (old new : DeviceLog) → Sends base job old new (Ok done) → bodies job.body.file ≡ job.bytes → PutsIf base bodies (flight_in job) done old new
puts_if base bodies job (Sent seen) old new sending bytes =
    let puts = sends_put base job old new (Ok (Sent seen)) sending seen refl bodies bytes in
    record { events = puts.events; grew = puts.grew; put = λ other is. puts.put }
puts_if base bodies job (Again after) old new sending bytes =
    record { events = sending.uploads.made; grew = sending.uploads.grew; put = λ seen is. let h : Again after ≡ Sent seen = is in cc }
puts_if base bodies job Refused old new sending bytes =
    record { events = sending.uploads.made; grew = sending.uploads.grew; put = λ seen is. let h : Refused ≡ Sent seen = is in cc }

turn_backed : (base : BaseParts) (bodies : ℕ → List ℕ) (t : DeskTable) (take settle : Step) (more : List Step) (job : Job) (done : Done) (events later : List Happened) → Takes bodies t take job → settle.deed ≡ Settle job.number done
    → ((seen : Seen) → done ≡ Sent seen → HasPut base bodies (flight_in job) events) → Backs base bodies (after (after t take.now take.deed) settle.now settle.deed) more later
    → Backs base bodies t (take ∷ settle ∷ more) (events ++ later)
turn_backed base bodies t take settle more job done events later takes deed put backs =
    let flies : (after t take.now take.deed).job ≡ Some (flight_in job) = taken_flies t take (flight_in job) takes.deed takes.legal.told takes.told in
    let sent : HasPutOf base bodies (job_sent (Some (flight_in job)) settle.deed settle.mark) events =
    subst (λ (d : Deed). HasPutOf base bodies (job_sent (Some (flight_in job)) d settle.mark) events) (sym deed) (settling_sends base bodies (flight_in job) job.number done settle.mark events put) in (
      [],
      events ++ later,
      refl,
      take_sends_none base bodies t.job take [] takes.deed,
      (events, later, refl, subst (λ (o : Option Flight). HasPutOf base bodies (job_sent o settle.deed settle.mark) events) (sym flies) sent, backs),
    )

pub turns_backed : (base : BaseParts) (bodies : ℕ → List ℕ) (t : DeskTable) (steps : List Step) (old new : DeviceLog) → Turns base bodies t steps old new → Backed base bodies t steps old new
turns_backed base bodies t steps old new (none u a) = record { events = []; grew = grows_same is_failure a; backs = tt }
turns_backed base bodies t steps old new (turn u take settle more a b c job done takes sends deed turns) =
    let puts = puts_if base bodies job done a b sends takes.bytes in
    let rest = turns_backed base bodies (after (after u take.now take.deed) settle.now settle.deed) more b c turns in
    record {
      events = puts.events ++ rest.events;
      grew = grows_then is_failure a b c puts.events rest.events puts.grew rest.grew;
      backs = turn_backed base bodies u take settle more job done puts.events rest.events takes deed puts.put rest.backs;
    }
turns_backed base bodies t steps old new (cut u take a b job ending takes sends) = record {
  events = sends.uploads.made;
  grew = sends.uploads.grew;
  backs = ([], sends.uploads.made, refl, take_sends_none base bodies u.job take [] takes.deed, tt);
}

pub backed_both : (base : BaseParts) (bodies : ℕ → List ℕ) (t : DeskTable) (steps more : List Step) (old mid new : DeviceLog) → Backed base bodies t steps old mid → Backed base bodies (table_after t steps) more mid new → Backed base bodies t (steps ++ more) old new
backed_both base bodies t steps more old mid new one rest = record {
  events = one.events ++ rest.events;
  grew = grows_then is_failure old mid new one.events rest.events one.grew rest.grew;
  backs = backs_both base bodies t steps more one.events rest.events one.backs rest.backs;
}
