-- Of a call behind which no file but the store's was touched, whatever the files are.
--     beside_looked      it only looked.      beside_behind      it came behind one that only looked
use Rattle.ip_ground.specs.Told.{Told, NoFile, ChangesOnly}
use Rattle.ip_ground.proofs.Spans.{only_more, only_on}
use Rattle.ip_publish.specs.Publishing.{IsOfStore}

pub beside_looked : (a b : Told) → ChangesOnly NoFile a b → ChangesOnly IsOfStore a b
beside_looked a b only = only_more a b NoFile IsOfStore (λ file none. absurd none) only

pub beside_behind : (a b c : Told) → ChangesOnly NoFile a b → ChangesOnly IsOfStore b c → ChangesOnly IsOfStore a c
beside_behind a b c looked only = only_on a b c IsOfStore (beside_looked a b looked) only
