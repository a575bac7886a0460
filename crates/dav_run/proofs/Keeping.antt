-- A whole run keeps what was closed last, and its status has its cause.
use Rattle.std.proofs.Common.{◌≡◌, ◌≢◌, inl, inr, ◌↔◌, ℕ, List, [], ◌∷◌, ◌++◌, map, Bool, true, false, ◌||◌, Option, None, Result, Ok, Err, refl, sym, ◌∙◌, ap, subst, append-nil}
use Rattle.dav_machine.specs.Log.{any_failed, Rose}
use Rattle.dav_machine.specs.Machine.{run_with, prepend}
use Rattle.dav_machine.proofs.Logs.{any_failed-append, grows_same}
use Rattle.dav_edge.specs.Connections.{connections_of}
use Rattle.dav_edge.specs.Device.{Receive, Fails, Happened, happened, DeviceLog, Grew, given, is_failure}
use Rattle.dav_text.specs.Path.{PathParts}
use Rattle.dav_text.specs.Reading.{top_path}
use Rattle.dav_uri.specs.Target.{BaseParts, base_of}
use Rattle.dav_uri.specs.declared.fault.UriFault.{UriFault}
use Rattle.dav_index.specs.Tables.{fresh_table}
use Rattle.dav_deeds.specs.DeskTable.{DeskTable, started}
use Rattle.dav_deeds.specs.Fate.{IsKept}
use Rattle.dav_deeds.specs.Legal.{table_after}
use Rattle.dav_deeds.specs.declared.answer.Job.{Job}
use Rattle.dav_deeds.specs.declared.deed.Step.{Step}
use Rattle.dav_deeds.specs.declared.fault.DeskFault.{DeskFault}
use Rattle.dav_deeds.specs.declared.fault.DeskFault.TheVariants as desk_faults
use Rattle.dav_deeds.proofs.Stories.{kept}
use Rattle.dav_recorder.specs.Survives.{with_under}
use Rattle.dav_upload.specs.Asking.{Asked, table_through}
use Rattle.dav_upload.specs.Desks.{DiskView}
use Rattle.dav_upload.specs.Resting.{IsResting}
use Rattle.dav_upload.specs.Sent.{AsksBacked, OfJobs, none as no_jobs, PathsDiffer, jobs_told}
use Rattle.dav_run.specs.declared.ended.Status.{Status}
use Rattle.dav_run.specs.declared.ended.Status.TheVariants as status
use Rattle.dav_run.specs.declared.stop.Stop.{Stop}
use Rattle.dav_run.specs.declared.stop.Stop.TheVariants as stops
use Rattle.dav_run.specs.Asked.{still, IsUnderIf, AllGiven}
use Rattle.dav_run.specs.Devices.{Made, Answers, calls_on, all, AllGrew}
use Rattle.dav_run.specs.Kept.{Told, line_of, asked_by, Walks, closings, StoresAre, NoStores, FaultsTold, printed_by, last_text, Wrote, WroteAnswers, IsWritten, EndHeard, NothingSent, AllRead, IsDesked, Keeps}
use Rattle.dav_run.specs.Line.{lines_of}
use Rattle.dav_run.specs.Ran.{Started, NotStarted, Ran}
use Rattle.dav_run.specs.Function.{none_left}
use Rattle.dav_run.specs.Run.{Ending, starves, ending, no_desk, Ends, Says, words_end, left_of, closing_status, after_shell, RunsOn, Opened, Runs, refused, unread, unopened, on}
use Rattle.dav_run.specs.Shell.{State, with_table, fresh_state, Shell}
use Rattle.dav_run.specs.Words.{IsBase, HasNoBase, IsRefusal}
use Rattle.dav_run.proofs.Bodies.{has_bodies}
use Rattle.dav_run.proofs.Closing.{Goes, runs, bytes_are, stores_of}
use Rattle.dav_run.proofs.Faulting.{WalkFaults, walk_faults, walked, through_both}
use Rattle.dav_run.proofs.Finishing.{EndRun, LastLine, input, starved, disk, cache, closing, untold, Ended, IsOwn, shell_backed, shell_jobs, shell_resting, behind, IsCause, end_asks, told_words, told_memory, told_fault}
use Rattle.dav_run.proofs.LastLines.{end_heard}
use Rattle.dav_run.proofs.OneRun.{base_unique}
use Rattle.dav_run.proofs.Telling.{Halts, Tells, ShellRun, shell_told, any_later}
use Rattle.dav_run.proofs.Tracing.{AllAsks, all_asks, all_summed, Traces, has_traced, traces_legal, traces_table, traces_still, traces_under, asks_front}
use Rattle.dav_run.proofs.Writing.{wrote_as, wrote_then, wrote_cut, wrote_none}

first_or : (a b c : Bool) → (a || b) ≡ true → (b ≡ true → c ≡ true) → (a || c) ≡ true
first_or true b c h f = refl
first_or false b c h f = f h

any_first : (es fs : List Happened) → any_failed is_failure es ≡ true → any_failed is_failure (es ++ fs) ≡ true
any_first [] fs h = let x : false ≡ true = h in absurd (cc)
any_first (e ∷ es) fs h = first_or (is_failure e.answer) (any_failed is_failure es) (any_failed is_failure (es ++ fs)) h (any_first es fs)

-- what a status tells of what was written, of the lines that answered faults, and of the rest of the input

closed_text : (faulty : Bool) (t : DeskTable) → last_text (closing_status faulty) t ≡ left_of t
closed_text true t = refl
closed_text false t = refl

last_wrote : (stop : Stop) (Caused : DeskFault → Type 0) (final : DeskTable) (faulty : Bool) (s : Status) (out : List Happened) → LastLine stop Caused final faulty s out → Wrote out (last_text s final)
last_wrote stop Caused final faulty s out (input at is wrote) = wrote_as out out _ (last_text s final) refl (sym (ap (λ (t : Status). last_text t final) is)) wrote
last_wrote stop Caused final faulty s out (starved is wrote) = wrote_as out out _ (last_text s final) refl (sym (ap (λ (t : Status). last_text t final) is)) wrote
last_wrote stop Caused final faulty s out (disk cause is wrote) = wrote_as out out _ (last_text s final) refl (sym (ap (λ (t : Status). last_text t final) is)) wrote
last_wrote stop Caused final faulty s out (cache fault own cause is wrote) = wrote_as out out _ (last_text s final) refl (sym (ap (λ (t : Status). last_text t final) is)) wrote
last_wrote stop Caused final faulty s out (closing at is fine wrote) = wrote_as out out _ (last_text s final) refl (sym (ap (λ (t : Status). last_text t final) is ∙ closed_text faulty final)) wrote
last_wrote stop Caused final faulty s out (untold at is failed wrote) = wrote_as out out _ (last_text s final) refl (sym (ap (λ (t : Status). last_text t final) is)) wrote

-- the lines were written whole, and a last line behind them
apart : (es fs : List Happened) (text : List ℕ) → any_failed is_failure es ≡ false → Wrote es text → WroteAnswers (es ++ fs) text
apart es fs text fine wrote = record { before = es; behind = fs; is = refl; fine = fine; took = wrote.whole fine }

closing_written : (faulty : Bool) (events : List Happened) (text : List ℕ) → any_failed is_failure events ≡ false → IsWritten (closing_status faulty) events text
closing_written true events text fine = fine
closing_written false events text fine = fine

last_written : (stop : Stop) (Caused : DeskFault → Type 0) (final : DeskTable) (faulty : Bool) (s : Status) (es out : List Happened) (text : List ℕ) → any_failed is_failure es ≡ false → Wrote es text → LastLine stop Caused final faulty s out
    → IsWritten s (es ++ out) text
last_written stop Caused final faulty s es out text fine wrote (input at is last) = subst (λ (t : Status). IsWritten t (es ++ out) text) (sym is) (apart es out text fine wrote)
last_written stop Caused final faulty s es out text fine wrote (starved is last) = subst (λ (t : Status). IsWritten t (es ++ out) text) (sym is) (apart es out text fine wrote)
last_written stop Caused final faulty s es out text fine wrote (disk cause is last) = subst (λ (t : Status). IsWritten t (es ++ out) text) (sym is) (apart es out text fine wrote)
last_written stop Caused final faulty s es out text fine wrote (cache fault own cause is last) = subst (λ (t : Status). IsWritten t (es ++ out) text) (sym is) (apart es out text fine wrote)
last_written stop Caused final faulty s es out text fine wrote (closing at is none last) =
    subst (λ (t : Status). IsWritten t (es ++ out) text) (sym is) (closing_written faulty (es ++ out) text (any_failed-append is_failure es out fine ∙ none))
last_written stop Caused final faulty s es out text fine wrote (untold at is failed last) = subst (λ (t : Status). IsWritten t (es ++ out) text) (sym is) (any_later es out failed)

-- a faulty state is one in which a line answered a fault
closing_faults : (told : List Told) (current : PathParts) (opening : DeskTable) (last : State) (faulty : Bool) → last.faulty ≡ faulty → WalkFaults told (fresh_state current opening) last → FaultsTold (closing_status faulty) told
closing_faults told current opening last true is walk = elim (walk.back is) [
  | inl fresh ↦ let x : false ≡ true = fresh in absurd (cc)
  | inr any ↦ any
]
closing_faults told current opening last false is walk = λ any. let x : true ≡ false = sym (walk.has any) ∙ is in absurd (cc)

last_faults : (stop : Stop) (Caused : DeskFault → Type 0) (final opening : DeskTable) (s : Status) (out : List Happened) (told : List Told) (current : PathParts) (last : State) → WalkFaults told (fresh_state current opening) last
    → LastLine stop Caused final last.faulty s out → FaultsTold s told
last_faults stop Caused final opening s out told current last walk (input at is wrote) = subst (λ (t : Status). FaultsTold t told) (sym is) tt
last_faults stop Caused final opening s out told current last walk (starved is wrote) = subst (λ (t : Status). FaultsTold t told) (sym is) tt
last_faults stop Caused final opening s out told current last walk (disk cause is wrote) = subst (λ (t : Status). FaultsTold t told) (sym is) tt
last_faults stop Caused final opening s out told current last walk (cache fault own cause is wrote) = subst (λ (t : Status). FaultsTold t told) (sym is) tt
last_faults stop Caused final opening s out told current last walk (closing at is fine wrote) =
    subst (λ (t : Status). FaultsTold t told) (sym is) (closing_faults told current opening last last.faulty refl walk)
last_faults stop Caused final opening s out told current last walk (untold at is failed wrote) = subst (λ (t : Status). FaultsTold t told) (sym is) tt

closing_read : (faulty : Bool) (rest : List (List ℕ)) → rest ≡ [] → AllRead (closing_status faulty) rest
closing_read true rest none = none
closing_read false rest none = none

last_read : (stop : Stop) (Caused : DeskFault → Type 0) (final : DeskTable) (faulty : Bool) (s : Status) (out : List Happened) (rest : List (List ℕ)) → (stop ≡ stops.End → rest ≡ []) → LastLine stop Caused final faulty s out → AllRead s rest
last_read stop Caused final faulty s out rest read (input at is wrote) = subst (λ (t : Status). AllRead t rest) (sym is) tt
last_read stop Caused final faulty s out rest read (starved is wrote) = subst (λ (t : Status). AllRead t rest) (sym is) tt
last_read stop Caused final faulty s out rest read (disk cause is wrote) = subst (λ (t : Status). AllRead t rest) (sym is) tt
last_read stop Caused final faulty s out rest read (cache fault own cause is wrote) = subst (λ (t : Status). AllRead t rest) (sym is) tt
last_read stop Caused final faulty s out rest read (closing at is fine wrote) = subst (λ (t : Status). AllRead t rest) (sym is) (closing_read faulty rest (read at))
last_read stop Caused final faulty s out rest read (untold at is failed wrote) = subst (λ (t : Status). AllRead t rest) (sym is) tt

closing_sent : (faulty : Bool) (up : List Happened) → NothingSent (closing_status faulty) up
closing_sent true up = tt
closing_sent false up = tt

last_sent : (stop : Stop) (Caused : DeskFault → Type 0) (final : DeskTable) (faulty : Bool) (s : Status) (out up : List Happened) → ((stop ≡ stops.End → ⊥) → up ≡ []) → LastLine stop Caused final faulty s out → NothingSent s up
last_sent stop Caused final faulty s out up still (input at is wrote) =
    subst (λ (t : Status). NothingSent t up) (sym is) (still (λ other. let x : stops.Input ≡ stops.End = sym at ∙ other in cc))
last_sent stop Caused final faulty s out up still (starved is wrote) = subst (λ (t : Status). NothingSent t up) (sym is) tt
last_sent stop Caused final faulty s out up still (disk cause is wrote) = subst (λ (t : Status). NothingSent t up) (sym is) tt
last_sent stop Caused final faulty s out up still (cache fault own cause is wrote) = subst (λ (t : Status). NothingSent t up) (sym is) tt
last_sent stop Caused final faulty s out up still (closing at is fine wrote) = subst (λ (t : Status). NothingSent t up) (sym is) (closing_sent faulty up)
last_sent stop Caused final faulty s out up still (untold at is failed wrote) = subst (λ (t : Status). NothingSent t up) (sym is) tt

starves_too : (s : Status) → starves s true ≡ true
starves_too status.Done = refl
starves_too status.Faults = refl
starves_too status.Words = refl
starves_too status.Disk = refl
starves_too status.Input = refl
starves_too status.Output = refl
starves_too (status.Cache fault) = refl
starves_too status.Memory = refl

unfailed : (s : Status) (heard : List Happened) → s ≢ status.Input → any_failed is_failure heard ≡ false → (s ≡ status.Input) ↔ (any_failed is_failure heard ≡ true)
unfailed s heard other fine = (λ is. absurd (other is), λ failed. let x : false ≡ true = sym fine ∙ failed in absurd (cc))

-- the source failed exactly where that is the status
pub source_failed : (s : Status) (heard : List Happened) → EndHeard s heard → (s ≡ status.Input) ↔ (any_failed is_failure heard ≡ true)
source_failed status.Done heard ended = unfailed status.Done heard (λ is. cc) (end_heard heard ended)
source_failed status.Faults heard ended = unfailed status.Faults heard (λ is. cc) (end_heard heard ended)
source_failed status.Memory heard ended = unfailed status.Memory heard (λ is. cc) ended
source_failed status.Words heard ended = unfailed status.Words heard (λ is. cc) (ap (any_failed is_failure) ended)
source_failed status.Disk heard ended = unfailed status.Disk heard (λ is. cc) ended
source_failed status.Input heard ended =
    (λ is. ap (any_failed is_failure) ended.last ∙ any_failed-append is_failure ended.earlier (happened (Receive ended.room) Fails ∷ []) ended.fine, λ failed. refl)
source_failed status.Output heard ended = unfailed status.Output heard (λ is. cc) ended
source_failed (status.Cache fault) heard ended = unfailed (status.Cache fault) heard (λ is. cc) ended

-- where a shell stands, whether the words name a base or not
pub record StandsAt (words : List (List ℕ)) : Type 0 where
  pub current : PathParts
  pub stands : (base : BaseParts) → IsBase words base → current ≡ base.path

stands_by : (text : List ℕ) (r : Result BaseParts UriFault) → base_of text ≡ r → StandsAt (text ∷ [])
stands_by text (Ok base) is = record {
  current = base.path;
  stands = λ other named. ap (λ (b : BaseParts). b.path) (base_unique (text ∷ []) base other (record { text = text; only = refl; read = is }) named);
}
stands_by text (Err fault) is = record {
  current = top_path;
  stands = λ other named.
      let texts : text ≡ named.text = let h = named.only in cc in
      let both : Err fault ≡ Ok other = sym is ∙ ap base_of texts ∙ named.read in absurd (cc);
}

pub stands_at : (words : List (List ℕ)) → StandsAt words
stands_at [] = record { current = top_path; stands = λ base named. let h = named.only in absurd (cc) }
stands_at (text ∷ []) = stands_by text (base_of text) refl
stands_at (text ∷ more ∷ rest) = record { current = top_path; stands = λ base named. let h = named.only in absurd (cc) }

-- A run over a desk that started: its lines, and what is behind them.
pub record Outcome (base : BaseParts) (opening : DeskTable) (bytes : List ℕ) (failed : Bool) (run : EndRun) : Type 0 where
  pub told : List Told
  pub rest : List (List ℕ)
  pub stop : Stop
  pub last : State
  pub lines : lines_of bytes ≡ map line_of told ++ rest
  pub answered : Walks (fresh_state base.path opening) told last
  pub halted : (fault : DeskFault) → stop ≡ stops.Desk fault → Halts (fresh_state base.path opening) told fault
  pub behind_them : List Asked
  pub asks : run.made.desk ≡ asked_by told ++ behind_them
  pub no_more : NoStores behind_them
  pub final : DeskTable
  pub final_is : final ≡ table_through opening run.made.desk
  pub result : run.result ≡ ending run.result.status (with_table last final)
  pub wrote : Wrote run.made.out (printed_by told ++ last_text run.result.status final)
  pub written : IsWritten run.result.status run.made.out (printed_by told)
  pub faults : FaultsTold run.result.status told
  pub read : AllRead run.result.status rest
  pub undrained : NothingSent run.result.status run.made.up
  pub backed : AsksBacked base [] opening run.made.desk run.made.up
  pub sent : OfJobs base (jobs_told opening run.made.desk) (connections_of run.made.up)
  pub differ : AllAsks run.made.desk → IsResting opening → PathsDiffer (jobs_told opening run.made.desk)
  pub not_words : run.result.status ≢ status.Words
  pub cause_disk : run.result.status ≡ status.Disk → IsCause stop desk_faults.Disk behind_them
  pub cause_cache : (fault : DeskFault) → run.result.status ≡ status.Cache fault → IsCause stop fault behind_them × IsOwn fault

closing_disk : (faulty : Bool) → closing_status faulty ≡ status.Disk → ⊥
closing_disk true is = cc
closing_disk false is = cc

closing_cache : (faulty : Bool) (fault : DeskFault) → closing_status faulty ≡ status.Cache fault → ⊥
closing_cache true fault is = cc
closing_cache false fault is = cc

pub last_disk : (stop : Stop) (Caused : DeskFault → Type 0) (final : DeskTable) (faulty : Bool) (s : Status) (out : List Happened) → LastLine stop Caused final faulty s out → s ≡ status.Disk → Caused desk_faults.Disk
last_disk stop Caused final faulty s out (input at is wrote) same = let x : status.Input ≡ status.Disk = sym is ∙ same in absurd (cc)
last_disk stop Caused final faulty s out (starved is wrote) same = let x : status.Memory ≡ status.Disk = sym is ∙ same in absurd (cc)
last_disk stop Caused final faulty s out (disk cause is wrote) same = cause
last_disk stop Caused final faulty s out (cache fault own cause is wrote) same = let x : status.Cache fault ≡ status.Disk = sym is ∙ same in absurd (cc)
last_disk stop Caused final faulty s out (closing at is fine wrote) same = absurd (closing_disk faulty (sym is ∙ same))
last_disk stop Caused final faulty s out (untold at is failed wrote) same = let x : status.Output ≡ status.Disk = sym is ∙ same in absurd (cc)

pub last_cache : (stop : Stop) (Caused : DeskFault → Type 0) (final : DeskTable) (faulty : Bool) (s : Status) (out : List Happened) (fault : DeskFault) → LastLine stop Caused final faulty s out → s ≡ status.Cache fault → Caused fault × IsOwn fault
last_cache stop Caused final faulty s out fault (input at is wrote) same = let x : status.Input ≡ status.Cache fault = sym is ∙ same in absurd (cc)
last_cache stop Caused final faulty s out fault (starved is wrote) same = let x : status.Memory ≡ status.Cache fault = sym is ∙ same in absurd (cc)
last_cache stop Caused final faulty s out fault (disk cause is wrote) same = let x : status.Disk ≡ status.Cache fault = sym is ∙ same in absurd (cc)
last_cache stop Caused final faulty s out fault (cache other own cause is wrote) same =
    let x : status.Cache other ≡ status.Cache fault = sym is ∙ same in let found : other ≡ fault = cc in subst (λ (f : DeskFault). Caused f × IsOwn f) found (cause, own)
last_cache stop Caused final faulty s out fault (closing at is fine wrote) same = absurd (closing_cache faulty fault (sym is ∙ same))
last_cache stop Caused final faulty s out fault (untold at is failed wrote) same = let x : status.Output ≡ status.Cache fault = sym is ∙ same in absurd (cc)

closing_words : (faulty : Bool) → closing_status faulty ≡ status.Words → ⊥
closing_words true is = cc
closing_words false is = cc

pub last_not_words : (stop : Stop) (Caused : DeskFault → Type 0) (final : DeskTable) (faulty : Bool) (s : Status) (out : List Happened) → LastLine stop Caused final faulty s out → s ≡ status.Words → ⊥
last_not_words stop Caused final faulty s out (input at is wrote) same = let x : status.Input ≡ status.Words = sym is ∙ same in cc
last_not_words stop Caused final faulty s out (starved is wrote) same = let x : status.Memory ≡ status.Words = sym is ∙ same in cc
last_not_words stop Caused final faulty s out (disk cause is wrote) same = let x : status.Disk ≡ status.Words = sym is ∙ same in cc
last_not_words stop Caused final faulty s out (cache fault own cause is wrote) same = let x : status.Cache fault ≡ status.Words = sym is ∙ same in cc
last_not_words stop Caused final faulty s out (closing at is fine wrote) same = closing_words faulty (sym is ∙ same)
last_not_words stop Caused final faulty s out (untold at is failed wrote) same = let x : status.Output ≡ status.Words = sym is ∙ same in cc

-- the run, made of what the shell did and of what is behind it
joined_run : (shell : ShellRun) (after : EndRun) (told : List Told) → shell.made.desk ≡ asked_by told → shell.made.up ≡ []
    → prepend all shell.made after ≡ run_with after.result (calls_on (shell.made.out ++ after.made.out) after.made.up (asked_by told ++ after.made.desk)) after.left
joined_run shell after told asked silent =
    ap (λ (d : List Asked). let r : EndRun = run_with after.result (calls_on (shell.made.out ++ after.made.out) (shell.made.up ++ after.made.up) (d ++ after.made.desk)) after.left in r) asked
    ∙ ap (λ (u : List Happened). let r : EndRun = run_with after.result (calls_on (shell.made.out ++ after.made.out) (u ++ after.made.up) (asked_by told ++ after.made.desk)) after.left in r) silent

-- the shell stopped, and the run went on to its end
outcome_behind : (base : BaseParts) (opening : DeskTable) (bytes : List ℕ) (failed : Bool) (shell : ShellRun) (stop : Stop) (left : Answers) (after run : EndRun) → Tells (lines_of bytes) failed (fresh_state base.path opening) shell
    → shell.result.0 ≡ stop → (stop ≡ stops.Output → ⊥) → after_shell base shell.result.1 stop left after → run ≡ prepend all shell.made after → Outcome base opening bytes failed run
outcome_behind base opening bytes failed shell stop left after run tells at other does whole =
    let st : State = shell.result.1 in
    let told : List Told = tells.told in
    let b = behind base stop st left after other does in
    let f = b.finished in
    let w = walked told (fresh_state base.path opening) st tells.walked in
    let fine = tells.fine (λ is. other (sym at ∙ is)) in
    let desk : List Asked = after.made.desk in
    let jobs = shell_jobs (asked_by told) desk opening w.shell in
    subst (Outcome base opening bytes failed) (sym (whole ∙ joined_run shell after told tells.asked tells.silent)) (record {
      told = told;
      rest = tells.rest;
      stop = stop;
      last = st;
      lines = tells.lines_are;
      answered = tells.walked;
      halted = λ fault is. tells.halted fault (at ∙ is);
      behind_them = desk;
      asks = refl;
      no_more = f.no_stores;
      final = f.final;
      final_is = f.table ∙ ap (λ (t : DeskTable). table_through t desk) w.table ∙ sym (through_both (asked_by told) desk opening);
      result = f.result;
      wrote = wrote_then shell.made.out after.made.out (printed_by told) (last_text after.result.status f.final) fine tells.wrote (last_wrote stop _ f.final st.faulty after.result.status after.made.out f.last);
      written = last_written stop _ f.final st.faulty after.result.status shell.made.out after.made.out (printed_by told) fine tells.wrote f.last;
      faults = last_faults stop _ f.final opening after.result.status after.made.out told base.path st (walk_faults told (fresh_state base.path opening) st tells.walked) f.last;
      read = last_read stop _ f.final st.faulty after.result.status after.made.out tells.rest (λ is. tells.read (at ∙ is)) f.last;
      undrained = last_sent stop _ f.final st.faulty after.result.status after.made.out after.made.up b.still f.last;
      backed = shell_backed base [] (asked_by told) desk opening after.made.up w.shell (subst (λ (t : DeskTable). AsksBacked base [] t desk after.made.up) w.table f.backed);
      sent = subst (λ (l : List Job). OfJobs base l (connections_of after.made.up)) (sym jobs) (subst (λ (t : DeskTable). OfJobs base (jobs_told t desk) (connections_of after.made.up)) w.table f.sent);
      differ = λ asks rests.
          subst PathsDiffer (sym jobs) (subst (λ (t : DeskTable). PathsDiffer (jobs_told t desk)) w.table
          (b.differ (subst IsResting (sym w.table) (shell_resting (asked_by told) opening w.shell (asks_front (asked_by told) desk asks) rests))));
      not_words = λ is. last_not_words stop _ f.final st.faulty after.result.status after.made.out f.last is;
      cause_disk = λ is. last_disk stop _ f.final st.faulty after.result.status after.made.out f.last is;
      cause_cache = λ fault is. last_cache stop _ f.final st.faulty after.result.status after.made.out fault f.last is;
    })

-- the sink failed in a line
outcome_broke : (base : BaseParts) (opening : DeskTable) (bytes : List ℕ) (failed : Bool) (shell : ShellRun) (left : Answers) (after run : EndRun) → Tells (lines_of bytes) failed (fresh_state base.path opening) shell
    → shell.result.0 ≡ stops.Output → after_shell base shell.result.1 stops.Output left after → run ≡ prepend all shell.made after → Outcome base opening bytes failed run
outcome_broke base opening bytes failed shell left after run tells at does whole =
    let st : State = shell.result.1 in
    let told : List Told = tells.told in
    let w = walked told (fresh_state base.path opening) st tells.walked in
    let out = shell.made.out in
    let broken = tells.sink at in
    let jobs = shell_jobs (asked_by told) [] opening w.shell in
    let is : after ≡ run_with (ending status.Output st) all.nothing left = does in
    subst (Outcome base opening bytes failed) (sym (whole ∙ joined_run shell after told tells.asked tells.silent ∙
    ap (λ (r : EndRun). let q : EndRun = run_with r.result (calls_on (out ++ r.made.out) r.made.up (asked_by told ++ r.made.desk)) r.left in q) is)) (record {
      told = told;
      rest = tells.rest;
      stop = stops.Output;
      last = st;
      lines = tells.lines_are;
      answered = tells.walked;
      halted = λ fault same. absurd (let x : stops.Output ≡ stops.Desk fault = same in cc);
      behind_them = [];
      asks = refl;
      no_more = tt;
      final = st.table;
      final_is = w.table ∙ ap (table_through opening) (sym (append-nil (asked_by told)));
      result = refl;
      wrote = wrote_as out (out ++ []) (printed_by told ++ left_of st.table) (printed_by told ++ left_of st.table) (sym (append-nil out)) refl (wrote_cut out (printed_by told) (left_of st.table) broken tells.wrote);
      written = ap (any_failed is_failure) (append-nil out) ∙ broken;
      faults = tt;
      read = tt;
      undrained = tt;
      backed = shell_backed base [] (asked_by told) [] opening [] w.shell tt;
      sent = subst (λ (l : List Job). OfJobs base l (connections_of [])) (sym jobs) no_jobs;
      differ = λ asks rests. subst PathsDiffer (sym jobs) tt;
      not_words = λ same. let x : status.Output ≡ status.Words = same in cc;
      cause_disk = λ same. absurd (let x : status.Output ≡ status.Disk = same in cc);
      cause_cache = λ fault same. absurd (let x : status.Output ≡ status.Cache fault = same in cc);
    })

outcome_by : (base : BaseParts) (opening : DeskTable) (bytes : List ℕ) (failed : Bool) (shell : ShellRun) (stop : Stop) (left : Answers) (after run : EndRun) → Tells (lines_of bytes) failed (fresh_state base.path opening) shell
    → shell.result.0 ≡ stop → after_shell base shell.result.1 stop left after → run ≡ prepend all shell.made after → Outcome base opening bytes failed run
outcome_by base opening bytes failed shell stops.Output left after run tells at does whole = outcome_broke base opening bytes failed shell left after run tells at does whole
outcome_by base opening bytes failed shell stops.Input left after run tells at does whole = outcome_behind base opening bytes failed shell stops.Input left after run tells at (λ h. cc) does whole
outcome_by base opening bytes failed shell stops.End left after run tells at does whole = outcome_behind base opening bytes failed shell stops.End left after run tells at (λ h. cc) does whole
outcome_by base opening bytes failed shell (stops.Desk fault) left after run tells at does whole =
    outcome_behind base opening bytes failed shell (stops.Desk fault) left after run tells at (λ h. cc) does whole

pub outcome : (base : BaseParts) (opening : DeskTable) (bytes : List ℕ) (failed : Bool) (answers : Answers) (run : EndRun) → RunsOn base opening bytes failed answers run → Outcome base opening bytes failed run
outcome base opening bytes failed answers run does =
    outcome_by base opening bytes failed does.before does.before.result.0 does.before.left does.after run
    (shell_told bytes failed [] (fresh_state base.path opening) answers does.before does.begins) refl does.goes_on does.whole

-- a run over a desk that started, of a whole run
module _ {D : Type 0} (view : DiskView D) (words : List (List ℕ)) (bytes : List ℕ) (failed : Bool) (o p u v : DeviceLog) (disk_old disk_new : D) (steps : List Step) (under : Option Step) (end : Ending)
    (ran : Started view words bytes failed o p u v disk_old disk_new steps under end) where
  abbrev pub whole_made : Made
  whole_made = all.joined ran.does.made all.nothing

  pub whole_outcome : Outcome ran.base ran.first.table bytes failed (run_with end whole_made none_left)
  whole_outcome = outcome ran.base ran.first.table bytes failed (all.answered ran.does.made none_left) (run_with end whole_made none_left) (ran.does.same none_left (run_with end all.nothing none_left) refl)

  pub whole_grew : AllGrew view o p u v ran.first ran.last whole_made
  whole_grew = subst (AllGrew view o p u v ran.first ran.last) (sym (all.joined_nothing ran.does.made)) ran.does.grew

  pub whole_free : ran.first.table.job ≡ None
  whole_free = ap (λ (t : DeskTable). t.job) ran.start.table

  pub whole_rests : IsResting ran.first.table
  whole_rests = record { sound = ran.start.sound; free = whole_free }

  -- the steps of the run are those of its asks
  pub whole_traces : Traces ran.first.table whole_made.desk steps under
  whole_traces =
      let t = has_traced view whole_made.desk ran.first ran.last ran.start.dead ran.start.under whole_grew.desk in
      let same : steps ≡ t.steps = ran.steps_are ∙ t.trace ∙ ap (λ (l : List Step). l ++ t.steps) ran.start.steps in
      subst (λ (o : Option Step). Traces ran.first.table whole_made.desk steps o) (sym ran.under_is)
      (subst (λ (l : List Step). Traces ran.first.table whole_made.desk l ran.last.recorder.under) (sym same) t.traces)

  pub whole_asks : AllAsks whole_made.desk
  whole_asks = all_asks view whole_made.desk ran.first ran.last whole_grew.desk

  desked : IsDesked ran.first.table whole_made.desk steps under whole_outcome.final
  desked =
      let table : table_after ran.first.table steps ≡ whole_outcome.final = traces_table whole_made.desk ran.first.table steps under whole_traces ∙ sym whole_outcome.final_is in
      record {
        traced = (traces_still whole_made.desk ran.first.table steps under whole_traces, traces_under whole_made.desk ran.first.table steps under whole_traces);
        final_is = whole_outcome.final_is;
        kept = subst (λ (t : DeskTable). IsKept ran.first.table steps t.index) table (kept ran.first.table steps whole_free (traces_legal whole_made.desk ran.first.table steps under whole_asks whole_traces));
        sums = all_summed view whole_made.desk ran.first ran.last whole_grew.desk;
      }

  -- the steps that closed a path, over these bytes
  pub whole_goes : (bodies : ℕ → List ℕ) → AllGiven bodies ran.first.table whole_made.desk → Goes bodies ran.first.table (asked_by whole_outcome.told ++ whole_outcome.behind_them) (closings (with_under steps under))
  whole_goes bodies given_ = subst (λ (es : List Asked). Goes bodies ran.first.table es (closings (with_under steps under))) whole_outcome.asks (runs steps under whole_traces given_ refl)

  stores : StoresAre whole_outcome.told (closings (with_under steps under))
  stores =
      let some = has_bodies (λ file. []) whole_made.desk ran.first.table in
      stores_of some.bodies whole_outcome.told (closings (with_under steps under))
      (bytes_are some.bodies whole_outcome.told (fresh_state ran.base.path ran.first.table) whole_outcome.last whole_outcome.behind_them (closings (with_under steps under)) whole_outcome.answered whole_outcome.no_more (whole_goes some.bodies some.given_all))

  started_keeps : (s0 s1 : DeviceLog) (heard : List Happened) → Grew s0 s1 heard → EndHeard end.status heard → bytes ≡ given heard → Keeps words s0 s1 o p u v steps under end
  started_keeps s0 s1 heard gave ended_ bytes_are_ =
      let out = whole_outcome in record {
        heard = heard;
        made = whole_made;
        told = out.told;
        last = out.last;
        rest = out.rest;
        gave = gave;
        out = whole_grew.out;
        up = whole_grew.up;
        ended = ended_;
        source = source_failed end.status heard ended_;
        lines = ap lines_of (sym bytes_are_) ∙ out.lines;
        read = out.read;
        current = ran.base.path;
        stands = λ base named. ap (λ (b : BaseParts). b.path) (base_unique words ran.base base ran.named named);
        opening = ran.first.table;
        answered = out.answered;
        behind = out.behind_them;
        asks = out.asks;
        no_more = out.no_more;
        final = out.final;
        desked = desked;
        stores = stores;
        lost = ap (λ (e : Ending). e.lost) out.result;
        wrote = out.wrote;
        written = out.written;
        faults = out.faults;
        done = sym (ap (λ (e : Ending). e.done) out.result);
        starved = λ h. ap (λ (e : Ending). e.starved) out.result ∙ ap (starves end.status) h ∙ starves_too end.status;
        undrained = out.undrained;
        backed = λ base named. subst (λ (b : BaseParts). AsksBacked b [] ran.first.table whole_made.desk whole_made.up) (base_unique words ran.base base ran.named named) out.backed;
        sent = λ base named. subst (λ (b : BaseParts). OfJobs b (jobs_told ran.first.table whole_made.desk) (connections_of whole_made.up)) (base_unique words ran.base base ran.named named) out.sent;
        differ = out.differ whole_asks whole_rests;
      }

-- a run without a desk, which cannot be going on
abbrev pub IsOver : Status → Type 0
IsOver status.Done = ⊥
IsOver status.Faults = ⊥
IsOver status.Words = Unit {0}
IsOver status.Disk = Unit {0}
IsOver status.Input = ⊥
IsOver status.Output = ⊥
IsOver (status.Cache fault) = Unit {0}
IsOver status.Memory = Unit {0}

-- A run without a desk.
pub record Quiet (words : List (List ℕ)) (run : EndRun) : Type 0 where
  pub result : run.result ≡ ending run.result.status no_desk
  pub wrote : Wrote run.made.out (last_text run.result.status no_desk.table)
  pub written : IsWritten run.result.status run.made.out []
  pub faults : FaultsTold run.result.status []
  pub read : AllRead run.result.status []
  pub undrained : NothingSent run.result.status []
  pub refusal : IsRefusal words run.result.status
  pub over : IsOver run.result.status

quiet_words : (words : List (List ℕ)) (answers : Answers) (run : EndRun) → HasNoBase words → Ends (Says words_end status.Words) no_desk answers run → Quiet words run
quiet_words words answers run none does =
    let told = told_words no_desk answers run does in
    let is : run.result.status ≡ status.Words = ap (λ (e : Ending). e.status) told.0 in
    record {
      result = told.0 ∙ ap (λ (s : Status). ending s no_desk) (sym is);
      wrote = wrote_as run.made.out run.made.out words_end (last_text run.result.status no_desk.table) refl (sym (ap (λ (s : Status). last_text s no_desk.table) is)) told.1;
      written = subst (λ (s : Status). IsWritten s run.made.out []) (sym is) (apart [] run.made.out [] refl wrote_none);
      faults = subst (λ (s : Status). FaultsTold s []) (sym is) tt;
      read = subst (λ (s : Status). AllRead s []) (sym is) tt;
      undrained = subst (λ (s : Status). NothingSent s []) (sym is) refl;
      refusal = record { refused = λ h. none; refuses = λ h. inl is };
      over = subst IsOver (sym is) tt;
    }

last_over : (stop : Stop) (Caused : DeskFault → Type 0) (final : DeskTable) (faulty : Bool) (s : Status) (out : List Happened) → stop ≢ stops.End → stop ≢ stops.Input → LastLine stop Caused final faulty s out → IsOver s
last_over stop Caused final faulty s out not_end not_input (input at is wrote) = absurd (not_input at)
last_over stop Caused final faulty s out not_end not_input (starved is wrote) = subst IsOver (sym is) tt
last_over stop Caused final faulty s out not_end not_input (disk cause is wrote) = subst IsOver (sym is) tt
last_over stop Caused final faulty s out not_end not_input (cache fault own cause is wrote) = subst IsOver (sym is) tt
last_over stop Caused final faulty s out not_end not_input (closing at is fine wrote) = absurd (not_end at)
last_over stop Caused final faulty s out not_end not_input (untold at is failed wrote) = absurd (not_end at)

quiet_ended : (words : List (List ℕ)) (fault : DeskFault) (Caused : DeskFault → Type 0) (run : EndRun) → Ended (stops.Desk fault) Caused no_desk run → IsRefusal words run.result.status → Quiet words run
quiet_ended words fault Caused run one refusal =
    let s : Status = run.result.status in
    let stop : Stop = stops.Desk fault in
    record {
      result = one.result;
      wrote = last_wrote stop Caused no_desk.table false s run.made.out one.last;
      written = last_written stop Caused no_desk.table false s [] run.made.out [] refl wrote_none one.last;
      faults = last_faults stop Caused no_desk.table no_desk.table s run.made.out [] top_path no_desk (walk_faults [] no_desk no_desk refl) one.last;
      read = last_read stop Caused no_desk.table false s run.made.out [] (λ h. refl) one.last;
      undrained = last_sent stop Caused no_desk.table false s run.made.out [] (λ h. refl) one.last;
      refusal = refusal;
      over = last_over stop Caused no_desk.table false s run.made.out (λ h. let x : stops.Desk fault ≡ stops.End = h in cc) (λ h. let x : stops.Desk fault ≡ stops.Input = h in cc) one.last;
    }

memory_only : (s : Status) (out : List Happened) → LastLine (stops.Desk desk_faults.Memory) (λ fault. ⊥) no_desk.table false s out → s ≡ status.Memory
memory_only s out (input at is wrote) = let x : stops.Desk desk_faults.Memory ≡ stops.Input = at in absurd (cc)
memory_only s out (starved is wrote) = is
memory_only s out (disk cause is wrote) = absurd cause
memory_only s out (cache fault own cause is wrote) = absurd cause
memory_only s out (closing at is fine wrote) = let x : stops.Desk desk_faults.Memory ≡ stops.End = at in absurd (cc)
memory_only s out (untold at is failed wrote) = let x : stops.Desk desk_faults.Memory ≡ stops.End = at in absurd (cc)

shell_empty : (st : State) (answers : Answers) (run : ShellRun) → Shell [] false [] st answers run → run.result ≡ (stops.End, st)
unfolding Shell
shell_empty st answers run does = ap (λ (r : ShellRun). r.result) does

none_before : (es fs : List Asked) → es ++ fs ≡ [] → fs ≡ []
none_before [] fs is = is
none_before (e ∷ es) fs is = let x : e ∷ (es ++ fs) ≡ [] = is in absurd (cc)

-- a run that goes on asks the desk
on_asks : (base : BaseParts) (table : DeskTable) (answers : Answers) (run : EndRun) → RunsOn base table [] false answers run → run.made.desk ≡ [] → ⊥
on_asks base table answers run does none =
    let st : State = fresh_state base.path table in
    let at = shell_empty st answers does.before does.begins in
    let goes : after_shell base st stops.End does.before.left does.after = subst (λ (r : Stop × State). after_shell base r.1 r.0 does.before.left does.after) at does.goes_on in
    end_asks base st does.before.left does.after goes (none_before does.before.made.desk does.after.made.desk (sym (ap (λ (r : EndRun). r.made.desk) does.whole) ∙ none))

pub quiet_run : (words : List (List ℕ)) (opened : Opened) (answers : Answers) (run : EndRun) → Runs words [] false opened answers run → run.made.desk ≡ [] → Quiet words run
quiet_run words opened answers run (refused no_base does) none = quiet_words words answers run no_base does
quiet_run words opened answers run (unread empty fine does) none =
    let one = told_memory no_desk answers run does in
    let is = memory_only run.result.status run.made.out one.last in
    quiet_ended words desk_faults.Memory (λ fault. ⊥) run one
    (record { refused = λ h. absurd (let x : status.Memory ≡ status.Words = sym is ∙ h in cc); refuses = λ h. inr is })
quiet_run words opened answers run (unopened base fault named is empty fine does) none =
    let one = told_fault fault no_desk answers run does in
    quiet_ended words fault (λ other. other ≡ fault) run one
    (record { refused = λ h. absurd (last_not_words (stops.Desk fault) (λ other. other ≡ fault) no_desk.table false run.result.status run.made.out one.last h); refuses = λ nothing. absurd (nothing base named) })
quiet_run words opened answers run (on base table named is does) none = absurd (on_asks base table answers run does none)

module _ {D : Type 0} (view : DiskView D) (words : List (List ℕ)) (o p u v : DeviceLog) (disk_old disk_new : D) (steps : List Step) (under : Option Step) (end : Ending)
    (ran : NotStarted view words o p u v disk_old disk_new steps under end) where
  abbrev pub quiet_made : Made
  quiet_made = calls_on ran.does.made.out [] []

  pub made_is : all.joined ran.does.made all.nothing ≡ quiet_made
  made_is =
      all.joined_nothing ran.does.made ∙ ap (λ (l : List Happened). calls_on ran.does.made.out l ran.does.made.desk) ran.does.grew.up ∙ ap (λ (l : List Asked). calls_on ran.does.made.out [] l) ran.does.grew.desk

  abbrev pub quiet_whole : EndRun
  quiet_whole = run_with end quiet_made none_left

  pub quiet_does : Runs words [] false ran.opened (all.answered ran.does.made none_left) quiet_whole
  quiet_does =
      subst (λ (m : Made). Runs words [] false ran.opened (all.answered ran.does.made none_left) (run_with end m none_left)) made_is (ran.does.same none_left (run_with end all.nothing none_left) refl)

  pub whole_quiet : Quiet words quiet_whole
  whole_quiet = quiet_run words ran.opened (all.answered ran.does.made none_left) quiet_whole quiet_does refl

  quiet_keeps : (s0 s1 : DeviceLog) (heard : List Happened) → Grew s0 s1 heard → EndHeard end.status heard → heard ≡ [] → Keeps words s0 s1 o p u v steps under end
  quiet_keeps s0 s1 heard gave ended_ none =
      let q = whole_quiet in
      let opening : DeskTable = started fresh_table in
      let at = stands_at words in record {
        heard = heard;
        made = quiet_made;
        told = [];
        last = fresh_state at.current opening;
        rest = [];
        gave = gave;
        out = ran.does.grew.out;
        up = subst (λ (w : DeviceLog). Grew u w []) (sym ran.wire) (grows_same is_failure u);
        ended = ended_;
        source = source_failed end.status heard ended_;
        lines = ap (λ (l : List Happened). lines_of (given l)) none;
        read = q.read;
        current = at.current;
        stands = at.stands;
        opening = opening;
        answered = refl;
        behind = [];
        asks = refl;
        no_more = tt;
        final = opening;
        desked = record {
          traced = (ap (map still) ran.steps_are, subst (IsUnderIf opening []) (sym ran.under_is) tt);
          final_is = refl;
          kept = subst (λ (l : List Step). IsKept opening l opening.index) (sym ran.steps_are) (kept opening [] refl tt);
          sums = tt;
        };
        stores = ap closings (ap (λ (l : List Step). with_under l under) ran.steps_are ∙ ap (with_under []) ran.under_is);
        lost = ap (λ (e : Ending). e.lost) q.result;
        wrote = q.wrote;
        written = q.written;
        faults = q.faults;
        done = sym (ap (λ (e : Ending). e.done) q.result);
        starved = λ h. let x : false ≡ true = h in absurd (cc);
        undrained = q.undrained;
        backed = λ base named. tt;
        sent = λ base named. no_jobs;
        differ = tt;
      }

module _ {D : Type 0} (view : DiskView D) (words : List (List ℕ)) (s0 s1 o p u v : DeviceLog) (disk_old disk_new : D) (steps : List Step) (under : Option Step) (end : Ending)
    (ran : Ran view words s0 s1 o p u v disk_old disk_new steps under end) where
  pub keeps : Keeps words s0 s1 o p u v steps under end
  keeps = elim ran.does [
    | inl started_ ↦ started_keeps view words (given ran.heard) (any_failed is_failure ran.heard) o p u v disk_old disk_new steps under end started_ s0 s1 ran.heard ran.gave ran.ended refl
    | inr quiet ↦ quiet_keeps view words o p u v disk_old disk_new steps under end quiet.1 s0 s1 ran.heard ran.gave ran.ended quiet.0
  ]

  pub words_refused : IsRefusal words end.status
  words_refused = elim ran.does [
    | inl started_ ↦ record {
      refused = λ h. absurd ((whole_outcome view words (given ran.heard) (any_failed is_failure ran.heard) o p u v disk_old disk_new steps under end started_).not_words h);
      refuses = λ none. absurd (none started_.base started_.named);
    }
    | inr quiet ↦ (whole_quiet view words o p u v disk_old disk_new steps under end quiet.1).refusal
  ]

  pub input_rose : end.status ≡ status.Input → Rose s0.faults s1.faults
  input_rose h = ran.gave.rose ((source_failed end.status ran.heard ran.ended).0 h)

  pub output_rose : end.status ≡ status.Output → Rose o.faults p.faults
  output_rose h = keeps.out.rose (subst (λ (s : Status). IsWritten s keeps.made.out (printed_by keeps.told)) h keeps.written)

  pub memory_starves : end.status ≡ status.Memory → end.starved ≡ true
  memory_starves h = elim ran.does [
    | inl started_ ↦
        let out = whole_outcome view words (given ran.heard) (any_failed is_failure ran.heard) o p u v disk_old disk_new steps under end started_ in
        ap (λ (e : Ending). e.starved) out.result ∙ ap (λ (s : Status). starves s out.last.starved) h
    | inr quiet ↦
        ap (λ (e : Ending). e.starved) (whole_quiet view words o p u v disk_old disk_new steps under end quiet.1).result ∙ ap (λ (s : Status). starves s false) h
  ]
