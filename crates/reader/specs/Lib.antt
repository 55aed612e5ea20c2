pub mod PageCalls
