-- The requests behind the settlings of a trace, step by step.
use Rattle.std.proofs.Common.{◌≡◌, ℕ, List, [], ◌∷◌, ◌++◌, Option, Some, None, sym, ◌∙◌, ap, subst, append_assoc, append-nil}
use Rattle.dav_edge.specs.Device.{Happened}
use Rattle.dav_uri.specs.Target.{BaseParts}
use Rattle.dav_text.specs.Path.{PathParts}
use Rattle.dav_text.specs.declared.tag.Seen.{Seen}
use Rattle.dav_store.specs.declared.body_id.BodyId.{BodyId}
use Rattle.dav_deeds.specs.declared.answer.Flight.{Flight}
use Rattle.dav_deeds.specs.declared.ask.Done.TheVariants as ends
use Rattle.dav_deeds.specs.declared.deed.Deed.{Deed}
use Rattle.dav_deeds.specs.declared.deed.Deed.TheVariants.{Settle}
use Rattle.dav_deeds.specs.declared.deed.Mark.{Mark}
use Rattle.dav_deeds.specs.declared.deed.Mark.TheVariants as marks
use Rattle.dav_deeds.specs.declared.deed.Step.{Step}
use Rattle.dav_deeds.specs.DeskTable.{DeskTable}
use Rattle.dav_deeds.specs.Effects.{after}
use Rattle.dav_deeds.specs.Legal.{table_after}
use Rattle.dav_deeds.specs.Fate.{IsSentAt}
use Rattle.dav_upload.specs.Backs.{HasPut, HasPutOf, job_sent, Backs}
use Rattle.dav_upload.specs.Outlives.{WasSent}

-- calls in front of the request don't matter
pub put_behind : (base : BaseParts) (bodies : ℕ → List ℕ) (flight : Flight) (front events : List Happened) → HasPut base bodies flight events → HasPut base bodies flight (front ++ events)
put_behind base bodies flight front events put = record {
  earlier = front ++ put.earlier;
  calls = put.calls;
  split = ap (λ (l : List Happened). front ++ l) put.split ∙ sym (append_assoc front put.earlier put.calls);
  received = put.received;
  makes = put.makes;
  reply = put.reply;
  answered = put.answered;
  success = put.success;
}

pub put_of_behind : (base : BaseParts) (bodies : ℕ → List ℕ) (job : Option Flight) (front events : List Happened) → HasPutOf base bodies job events → HasPutOf base bodies job (front ++ events)
put_of_behind base bodies None front events put = tt
put_of_behind base bodies (Some flight) front events put = put_behind base bodies flight front events put

-- the requests behind a front of the steps
pub backs_front : (base : BaseParts) (bodies : ℕ → List ℕ) (t : DeskTable) (front rest : List Step) (events : List Happened) → Backs base bodies t (front ++ rest) events → Backs base bodies t front events
backs_front base bodies t [] rest events backs = tt
backs_front base bodies t (s ∷ front) rest events backs =
    (backs.0, backs.1, backs.2, backs.3, backs_front base bodies (after t s.now s.deed) front rest backs.1 backs.4)

-- further calls are those of no step
pub backs_more : (base : BaseParts) (bodies : ℕ → List ℕ) (t : DeskTable) (steps : List Step) (events more : List Happened) → Backs base bodies t steps events → Backs base bodies t steps (events ++ more)
backs_more base bodies t [] events more backs = tt
backs_more base bodies t (s ∷ steps) events more backs =
    (backs.0, backs.1 ++ more, ap (λ (l : List Happened). l ++ more) backs.2 ∙ append_assoc backs.0 backs.1 more, backs.3, backs_more base bodies (after t s.now s.deed) steps backs.1 more backs.4)

-- calls in front are those of no step
pub backs_ahead : (base : BaseParts) (bodies : ℕ → List ℕ) (t : DeskTable) (steps : List Step) (front events : List Happened) → Backs base bodies t steps events → Backs base bodies t steps (front ++ events)
backs_ahead base bodies t [] front events backs = tt
backs_ahead base bodies t (s ∷ steps) front events backs =
    (front ++ backs.0, backs.1, ap (λ (l : List Happened). front ++ l) backs.2 ∙ sym (append_assoc front backs.0 backs.1), put_of_behind base bodies (job_sent t.job s.deed s.mark) front backs.0 backs.3, backs.4)

-- one step more, with the calls since
pub backs_push : (base : BaseParts) (bodies : ℕ → List ℕ) (t : DeskTable) (steps : List Step) (s : Step) (events part : List Happened) → Backs base bodies t steps events
    → HasPutOf base bodies (job_sent (table_after t steps).job s.deed s.mark) part → Backs base bodies t (steps ++ s ∷ []) (events ++ part)
backs_push base bodies t [] s events part backs put =
    (events ++ part, [], sym (append-nil (events ++ part)), put_of_behind base bodies (job_sent t.job s.deed s.mark) events part put, tt)
backs_push base bodies t (x ∷ steps) s events part backs put = (
  backs.0,
  backs.1 ++ part,
  ap (λ (l : List Happened). l ++ part) backs.2 ∙ append_assoc backs.0 backs.1 part,
  backs.3,
  backs_push base bodies (after t x.now x.deed) steps s backs.1 part backs.4 put,
)

-- the calls of two runs of steps
pub backs_both : (base : BaseParts) (bodies : ℕ → List ℕ) (t : DeskTable) (steps more : List Step) (events later : List Happened) → Backs base bodies t steps events → Backs base bodies (table_after t steps) more later
    → Backs base bodies t (steps ++ more) (events ++ later)
backs_both base bodies t [] more events later backs rest = backs_ahead base bodies t more events later rest
backs_both base bodies t (s ∷ steps) more events later backs rest = (
  backs.0,
  backs.1 ++ later,
  ap (λ (l : List Happened). l ++ later) backs.2 ∙ append_assoc backs.0 backs.1 later,
  backs.3,
  backs_both base bodies (after t s.now s.deed) steps more backs.1 later backs.4 rest,
)

-- the calls up to a step, the last of which are those of its request
pub record PutUntil (base : BaseParts) (bodies : ℕ → List ℕ) (flight : Flight) (events : List Happened) : Type 0 where
  pub until : List Happened
  pub later : List Happened
  pub split : events ≡ until ++ later
  pub put : HasPut base bodies flight until

put_until : (base : BaseParts) (bodies : ℕ → List ℕ) (flight : Flight) (t : DeskTable) (before : List Step) (s : Step) (since : List Step) (events : List Happened)
    → Backs base bodies t (before ++ s ∷ since) events → job_sent (table_after t before).job s.deed s.mark ≡ Some flight → PutUntil base bodies flight events
put_until base bodies flight t [] s since events backs is =
    record { until = backs.0; later = backs.1; split = backs.2; put = subst (λ (job : Option Flight). HasPutOf base bodies job backs.0) is backs.3 }
put_until base bodies flight t (x ∷ before) s since events backs is =
    let later = put_until base bodies flight (after t x.now x.deed) before s since backs.1 backs.4 is in
    record {
      until = backs.0 ++ later.until;
      later = later.later;
      split = backs.2 ∙ ap (λ (l : List Happened). backs.0 ++ l) later.split ∙ sym (append_assoc backs.0 later.until later.later);
      put = put_behind base bodies flight backs.0 later.until later.put;
    }

-- the job that a settling with Sent tells to be sent
sent_is_flight : (job : Option Flight) (flight : Flight) (s : Step) (seen : Seen) → job ≡ Some flight → s.deed ≡ Settle flight.number (ends.Sent seen) → s.mark ≡ marks.Plain → job_sent job s.deed s.mark ≡ Some flight
sent_is_flight job flight s seen flies deed_is mark_is =
    ap (λ (o : Option Flight). job_sent o s.deed s.mark) flies
    ∙ ap (λ (d : Deed). job_sent (Some flight) d s.mark) deed_is
    ∙ ap (λ (m : Mark). job_sent (Some flight) (Settle flight.number (ends.Sent seen)) m) mark_is

-- bytes that a step tells to be sent were sent
pub was_sent : (base : BaseParts) (bodies : ℕ → List ℕ) (opening : DeskTable) (steps : List Step) (events : List Happened) (path : PathParts) (place : ℕ) (body : BodyId)
    → Backs base bodies opening steps events → IsSentAt opening steps path place body → WasSent base bodies opening steps events path place body
was_sent base bodies opening steps events path place body backs at =
    let found = put_until base bodies at.flight opening at.before at.step at.since events
    (subst (λ (l : List Step). Backs base bodies opening l events) at.split backs)
    (sent_is_flight (table_after opening at.before).job at.flight at.step at.seen at.in_flight at.deed_is at.mark_is) in
    record { settled = at; until = found.until; later = found.later; split = found.split; put = found.put }
