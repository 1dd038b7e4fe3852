pub mod AnyReport
