-- What a ground tells of its content, and how that goes on.
--     Told      what it tells.      said, lending told      now.      Beside      what it reads through another object
--     IsForeign, IsLoose told file, IsSettledAs told attempt held      what a child may still do to a file, and what it left
--     KeepsPast, KeepsSaid, KeepsCustody, TurnsCustody      what was told stands.      KeepsFile, SyncsAtMost, ChangesLeft      of a file
--     IsPossible, EachImage, EachImageNow, EachSince, EachNow, IsPossibleNow      what a crash may leave.      IsAbout, MayTear      which of it
--     ChangesOnly, SyncsOnly these old new      these files alone, as Only file, or NoFile
--     IsSynced, IsSyncedAs told file      what is durable.      IsBlank, Reopens, silent      at the beginning
use Rattle.std.specs.Prelude.{◌≡◌, ◌⊎◌, ℕ, ◌<◌, ◌≤◌, List, [], None, Bool, IsTrue}
use Rattle.ip_ground.specs.declared.names.FileName.{FileName}
use Rattle.ip_ground.specs.Contents.{Content, Image, Leave, Possible, Torn}
use Rattle.ip_ground.specs.Custody.{Custody, own, settled, custody_of}
use Rattle.ip_ground.specs.Custody as custody

-- What a ground keeps to itself, and no call changes. One that reads through another object tells here which one, by the
-- name under which that is borrowed, and what that tells of the folder at all moments.
pub record Beside : Type 0 where
  pub name : ℕ
  pub film : ℕ → Image

pub record Told : Type 1 where
  -- the moment now; each call that is Ok comes later
  pub moment : ℕ
  -- what each file reads as, now
  pub held : Image
  -- what a crash at a moment up to now may leave in a file's place
  pub may_leave : ℕ → Leave
  -- what had been said at a moment up to now
  pub said_at : ℕ → List ℕ
  -- whose the files of an attempt were at a moment up to now
  pub lending_at : ℕ → ℕ → Custody
  -- how many writes of a file were asked for, those that failed too, where they were noted. What a child does is not among them
  pub writes : FileName → ℕ
  pub beside : Beside

abbrev pub said : Told → List ℕ
said told = told.said_at told.moment

-- whose the files of each attempt are, now
abbrev pub lending : Told → ℕ → Custody
lending told = told.lending_at told.moment

-- the child may change the file between any two calls
abbrev pub IsForeign : Told → FileName → Type 0
IsForeign told file = custody.IsForeign (custody_of (lending told) file)

-- nothing binds what a crash leaves of the file
abbrev pub IsLoose : Told → FileName → Type 0
IsLoose told file = custody.IsLoose (custody_of (lending told) file) file

-- the attempt is settled, and its files held this then
abbrev pub IsSettledAs : Told → ℕ → Image → Type 0
IsSettledAs told attempt pair = (synced : FileName → Bool) × (lending told attempt ≡ settled pair synced)

-- Time goes on: what was told of earlier moments stands.
pub record KeepsPast (old new : Told) : Type 0 where
  pub later : old.moment ≤ new.moment
  pub left : (moment : ℕ) (file : FileName) (content : Content) → moment ≤ old.moment → new.may_leave moment file content → old.may_leave moment file content
  pub still_left : (moment : ℕ) (file : FileName) (content : Content) → moment ≤ old.moment → old.may_leave moment file content → new.may_leave moment file content
  pub said : (moment : ℕ) → moment ≤ old.moment → new.said_at moment ≡ old.said_at moment
  pub lending : (moment attempt : ℕ) → moment ≤ old.moment → new.lending_at moment attempt ≡ old.lending_at moment attempt
  pub beside : new.beside ≡ old.beside

-- Each content of the file that a crash may leave at a moment since old is one of before, after a step.
abbrev pub ChangesLeft : (Content → Content → Type 0) → Told → Told → FileName → Type 0
ChangesLeft step old new file = (moment : ℕ) (content : Content) → old.moment < moment → moment ≤ new.moment → new.may_leave moment file content
    → (before : Content) × old.may_leave old.moment file before × step before content

-- The file reads as it did, and a crash leaves nothing more of it, as far as its child leaves it so: at
-- most it was synced. No write of it was asked for, whoever may change it.
pub record SyncsAtMost (old new : Told) (file : FileName) : Type 0 where
  pub unwritten : new.writes file ≡ old.writes file
  pub held : ¬ IsForeign old file → new.held file ≡ old.held file
  pub left : ¬ IsLoose old file → (moment : ℕ) (content : Content) → old.moment < moment → moment ≤ new.moment → new.may_leave moment file content → old.may_leave old.moment file content
  pub own : ¬ IsForeign old file → ¬ IsForeign new file
  pub firm : ¬ IsLoose old file → ¬ IsLoose new file

-- The file stays as it was, by what a read gives and by what a crash may leave, as far as its child leaves
-- it so. What was pending is so still: it was not synced either. No write of it was asked for, whoever may change it.
pub record KeepsFile (old new : Told) (file : FileName) : Type 0 where
  pub unwritten : new.writes file ≡ old.writes file
  pub held : ¬ IsForeign old file → new.held file ≡ old.held file
  pub left : ¬ IsLoose old file → (moment : ℕ) (content : Content) → old.moment < moment → moment ≤ new.moment → new.may_leave moment file content → old.may_leave old.moment file content
  pub still_left : ¬ IsLoose old file → (moment : ℕ) (content : Content) → old.moment < moment → moment ≤ new.moment → old.may_leave old.moment file content → new.may_leave moment file content
  pub own : ¬ IsForeign old file → ¬ IsForeign new file
  pub firm : ¬ IsLoose old file → ¬ IsLoose new file

-- Nothing is said.
abbrev pub KeepsSaid : Told → Told → Type 0
KeepsSaid old new = (moment : ℕ) → old.moment < moment → moment ≤ new.moment → new.said_at moment ≡ said old

-- The custody of the attempt is what it was, at each moment since.
abbrev pub KeepsCustody : Told → Told → ℕ → Type 0
KeepsCustody old new attempt = (moment : ℕ) → old.moment < moment → moment ≤ new.moment → new.lending_at moment attempt ≡ lending old attempt

-- At each moment since, the custody of the attempt is what it was before, or what it is now.
abbrev pub TurnsCustody : Told → Told → ℕ → Type 0
TurnsCustody old new attempt = (moment : ℕ) → old.moment < moment → moment ≤ new.moment → (new.lending_at moment attempt ≡ lending old attempt) ⊎ (new.lending_at moment attempt ≡ lending new attempt)

-- Each content that a crash may leave of the file at a moment since old has this.
abbrev pub EachSince : Told → Told → FileName → (Content → Type 0) → Type 0
EachSince old new file P = (moment : ℕ) (content : Content) → old.moment < moment → moment ≤ new.moment → new.may_leave moment file content → P content

-- Each content that a crash may leave of the file now has this.
abbrev pub EachNow : Told → FileName → (Content → Type 0) → Type 0
EachNow told file P = (content : Content) → told.may_leave told.moment file content → P content

-- Nothing of the file is pending: a crash leaves what it reads as.
abbrev pub IsSynced : Told → FileName → Type 0
IsSynced told file = EachNow told file (λ content. content ≡ told.held file)

-- an image that a crash may leave at a moment: file by file
abbrev pub IsPossible : Told → ℕ → Image → Type 0
IsPossible told moment image = Possible (told.may_leave moment) image

-- At each moment since old, what had been said by then and each image that a crash may leave have this.
abbrev pub EachImage : Told → Told → (List ℕ → Image → Type 0) → Type 0
EachImage old new P = (moment : ℕ) (image : Image) → old.moment < moment → moment ≤ new.moment → IsPossible new moment image → P (new.said_at moment) image

-- Each image that a crash may leave now has this.
abbrev pub EachImageNow : Told → (Image → Type 0) → Type 0
EachImageNow told P = (image : Image) → IsPossible told told.moment image → P image

-- The fact is about these files alone.
abbrev pub IsAbout : (FileName → Bool) → (Image → Type 0) → Type 0
IsAbout these P = (one other : Image) → ((file : FileName) → IsTrue (these file) → one file ≡ other file) → P one → P other

-- A crash may leave any bytes in a range of the file, in whatever it might have left of it before.
abbrev pub MayTear : FileName → ℕ → ℕ → Told → Told → Type 0
MayTear file at n old new = (before content : Content) → old.may_leave old.moment file before → Torn at n before content → new.may_leave new.moment file content

-- What the files read as is one of the things that a crash may leave.
abbrev pub IsPossibleNow : Told → Type 0
IsPossibleNow told = (file : FileName) → told.may_leave told.moment file (told.held file)

-- this file
abbrev pub Only : FileName → FileName → Type 0
Only file other = other ≡ file

-- no file
abbrev pub NoFile : FileName → Type 0
NoFile file = ⊥

-- At no moment since old has a file changed but these, or was synced, nothing was said, and none was lent
-- or settled.
pub record ChangesOnly (these : FileName → Type 0) (old new : Told) : Type 0 where
  pub goes : KeepsPast old new
  pub others : (file : FileName) → ¬ these file → KeepsFile old new file
  pub lending : (attempt : ℕ) → KeepsCustody old new attempt
  pub said : KeepsSaid old new

-- At no moment since old has a file changed, but that these may have been synced, nothing was said, and none
-- was lent or settled.
pub record SyncsOnly (these : FileName → Type 0) (old new : Told) : Type 0 where
  pub changes : ChangesOnly these old new
  pub files : (file : FileName) → SyncsAtMost old new file

-- No file is there, a crash leaves none, nothing was said, and no attempt was ever lent.
pub record IsBlank (told : Told) : Type 0 where
  pub held : (file : FileName) → told.held file ≡ None
  pub kept : (file : FileName) → IsSynced told file
  pub said : said told ≡ []
  pub lending : (moment attempt : ℕ) → moment ≤ told.moment → told.lending_at moment attempt ≡ own

-- A ground that is opened again after a stop: it reads as something that a crash might have left, and a further crash
-- leaves nothing else. An attempt that was not settled stays lent, and a file that was loose stays so until it is synced.
pub record Reopens (old new : Told) : Type 0 where
  pub held : (file : FileName) → old.may_leave old.moment file (new.held file)
  pub left : (file : FileName) (content : Content) → new.may_leave new.moment file content → old.may_leave old.moment file content
  pub said : said new ≡ []
  pub lending : (attempt : ℕ) → lending new attempt ≡ lending old attempt

-- The file held this when nothing of it was pending for the last time: there was a moment at which a crash would have
-- left this alone, and at none since is it impossible. So it is what the file held when it was synced last.
abbrev pub IsSyncedAs : Told → FileName → Content → Type 0
IsSyncedAs told file content = (moment : ℕ) × (moment ≤ told.moment) × ((other : Content) → told.may_leave moment file other → other ≡ content)
    × ((later : ℕ) → moment ≤ later → later ≤ told.moment → told.may_leave later file content)

-- one that reads through no other
abbrev pub nothing_beside : Beside
nothing_beside = record { name = 0; film = λ moment file. None }

-- what a ground that tells nothing tells
abbrev pub silent : Told
silent = record { moment = 0; held = λ file. None; may_leave = λ moment file content. Unit {0}; said_at = λ moment. []; lending_at = λ moment attempt. own; writes = λ file. 0; beside = nothing_beside }
